-- Open ranges and the parts of one.
use Prim.Native.Nat.{◌+◌, ◌-◌, ◌<◌, ◌≤◌, suc, ℕ}
use mathlib.Core.Path.{◌∙◌, ◌≡◌, refl, sym}
use mathlib.Core.Logic.{◌⊎◌, inl, inr}
use mathlib.Core.List.{List, [], ◌++◌, ◌∷◌, append_assoc, append-nil}
use lib.Dec.{ltb}
use lib.ListN.{length, length-append, length-set, set, take}
use lib.Seq.{take-suc-set}
use native.Mathlib.Omega.{arith}
use borrow.Author.Tests.{le-ltb, lt-ltb, ltb-true}
use Rattle.octets.specs.Lists.{◌∈◌}
use Rattle.octets.proofs.Lists.{append_in}
use Rattle.octets.proofs.Tests.{by_test}
use Rattle.entries.specs.Entries.{Entry, at, best}
use Rattle.entries.proofs.Span.{span, span_best}
use Rattle.completion.specs.declared.Range.{Range}
use Rattle.completion.specs.Machine.{open_range, parts}
use Rattle.completion.proofs.Machine.{open_length}
use Rattle.book_best.specs.Best.{BestIn}
use Rattle.completion_turn.specs.Turns.{Put, RangeInside}

module _ (es : List Entry) (first end : ℕ) where
  -- no positions, no range
  pub open_none : end ≤ first → open_range es first end ≡ []
  unfolding open_range
  open_none h = rw (le-ltb first end h)

  -- some positions, one range with their best
  pub open_some :
      first < end → {b : ℕ} → BestIn es first end b
      → open_range es first end ≡ record { first = first; best = b; score = (at es b).score; last = end - 1 } ∷ []
  unfolding open_range
  open_some h w = rw (lt-ltb first end h, ← w.is_best)

-- the parts are what is left and right of the best
parts_are : (es : List Entry) (r : Range)
    → parts es r ≡ open_range es r.first r.best ++ open_range es (r.best + 1) (r.last + 1)
unfolding parts
parts_are es r =
    let p : suc r.best ≡ r.best + 1 = omega arith in
    let q : suc r.last ≡ r.last + 1 = omega arith in
    rw (p, q)

pub parts_few : (es : List Entry) (r : Range) → length (parts es r) ≤ 2
parts_few es r =
    let a = open_length es r.first r.best in
    let b = open_length es (r.best + 1) (r.last + 1) in
    rw (parts_are es r) (omega (arith, length-append {A = Range}))

-- positions put as an open range, if there are any
module _ (es : List Entry) (first end : ℕ) (xs : List Range) (m : ℕ) where
  pub put_none : end ≤ first → Put es first end xs m xs m
  put_none h =
      let o = open_none es first end h in
      record { opened = rw o (sym (append-nil (take m xs))); filled = rw o (omega arith); size = refl }

  pub put_some : {r : Range} → open_range es first end ≡ r ∷ [] → m < length xs
      → Put es first end xs m (set xs m r) (m + 1)
  put_some {r} o l =
      let z : m + 1 ≡ suc m = omega arith in
      record { opened = rw (o, z) (take-suc-set xs m r l); filled = rw o (omega arith); size = length-set xs m r }

-- one more slot is filled at most
pub put_few : {es : List Entry} {i j : ℕ} {xs ys : List Range} {m k : ℕ} → Put es i j xs m ys k → k ≤ m + 1
put_few {es} {i} {j} a = omega (arith, a.filled, open_length es i j)

-- both parts of a range put, one behind the other
pub put_parts :
    {es : List Entry} (r : Range) {xs ys zs : List Range} {m k l : ℕ} → Put es r.first r.best xs m ys k
    → Put es (r.best + 1) (r.last + 1) ys k zs l
    → (take l zs ≡ take m xs ++ parts es r) × (l ≡ m + length (parts es r)) × (length zs ≡ length xs)
    × (l - m ≡ length (parts es r))
put_parts {es} r {xs} {ys} {zs} {m} {k} {l} a b =
    let left = open_range es r.first r.best in
    let right = open_range es (r.best + 1) (r.last + 1) in
    let e = parts_are es r in
    let n : l ≡ m + length (parts es r) = rw e (omega (arith, a.filled, b.filled, length-append left right)) in
    (rw (e, ← append_assoc (take m xs) left right, ← a.opened) b.opened, n, b.size ∙ a.size, omega (arith, n))

-- every open range holds positions, its best among them with its score
pub open_inside : (es : List Entry) (i j : ℕ) → j ≤ length es → (r : Range) → r ∈ open_range es i j → RangeInside es r
unfolding open_range
open_inside es i j h r m = by_test (ltb i j) (λ t. one (ltb-true i j t) (rw t at m)) (λ t. absurd (rw t at m))
  where
    one : i < j → r ∈ (record {
      first = i;
      best = i + best (span es i j);
      score = (at es (i + best (span es i j))).score;
      last = j - 1;
    } ∷ []) → RangeInside es r
    one a (inl q) =
        let b = span_best es i j a h in
        rw q (record { low = omega arith; high = omega arith; within = omega arith; scored = refl })
    one a (inr n) = absurd n

pub parts-inside : (es : List Entry) (r : Range) → RangeInside es r → (t : Range) → t ∈ parts es r → RangeInside es t
unfolding parts
parts-inside es r g t m = go (append_in t (open_range es r.first r.best)
    (open_range es (suc r.best) (suc r.last)) m)
  where
    go : (t ∈ open_range es r.first r.best) ⊎ (t ∈ open_range es (suc r.best) (suc r.last)) → RangeInside es t
    go (inl n) = open_inside es r.first r.best (omega (arith, g.high, g.within)) t n
    go (inr n) = open_inside es (suc r.best) (suc r.last) g.within t n

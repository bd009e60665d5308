-- The best of some slots is the range that the machine of the definitions chooses.
use Prim.Native.Nat.{◌+◌, ◌-◌, ◌<◌, ◌≤◌, suc, zero, ℕ}
use mathlib.Core.Path.{◌∙◌, ◌≡◌, ap, refl, sym}
use mathlib.Core.Bool.{true}
use mathlib.Core.List.{List, [], ◌++◌, ◌∷◌, map-append}
use lib.Dec.{ltb}
use lib.ListN.{get_or-append, get_or, length, take}
use lib.Seq.{get_or-append_seam, get_or-take, length-take-le, take-suc}
use native.Mathlib.Nat.{add-zero}
use native.Mathlib.Omega.{arith}
use borrow.Author.Tests.{ltb-false, ltb-true}
use Rattle.octets.specs.Lists.{◌∈◌, if◌then◌otherwise◌}
use Rattle.octets.proofs.Lists.{get_in}
use Rattle.octets.proofs.Order.{below_asym, below_irrefl}
use Rattle.octets.proofs.Tests.{by_test}
use Rattle.entries.specs.Entries as Entries
use Rattle.entries.specs.Entries.{Entry, at, best, name_below, no_entry, outranks, rising}
use Rattle.entries.proofs.Rank.{best_less, not_outranks_trans, outranks_trans}
use Rattle.entries.proofs.Span.{rising-at}
use Rattle.completion.specs.declared.Range.{Range}
use Rattle.completion.specs.Machine.{bests, no_range}
use Rattle.completion.proofs.Machine.{at_map, length-bests}
use Rattle.completion_turn.specs.declared.BestRange.{BestRange}
use Rattle.completion_turn.specs.Slots.{best_from, best_of, better_range, is_ahead}
use Rattle.completion_turn.specs.Turns.{RangeInside}

-- the best of an entry and some behind it
best_cons : (e : Entry) (zs : List Entry) → 0 < length zs
    → best (e ∷ zs) ≡ (if outranks e (at zs (best zs)) then 0 otherwise suc (best zs))
best_cons e [] h = absurd (omega arith)
best_cons e (f ∷ zs) h = refl

-- the best of entries and one more behind them
best_snoc :
    (e : Entry) (es : List Entry) (x : Entry)
    → best ((e ∷ es) ++ (x ∷ [])) ≡ (if outranks (at (e ∷ es) (best (e ∷ es))) x then best (e ∷ es) otherwise length (e
    ∷ es))
best_snoc e [] x = refl
best_snoc e (f ∷ es) x =
    let zs = f ∷ es in
    let m = at zs (best zs) in
    let ih = best_snoc f es x in
    let c = best_cons e (zs ++ (x ∷ [])) (omega arith) in
    let l = best_less f es in
    by_test (outranks m x)
    (λ t.
    let b : best (zs ++ (x ∷ [])) ≡ best zs = rw t at ih in
    let v : at (zs ++ (x ∷ [])) (best zs) ≡ m = get_or-append zs (x ∷ []) no_entry (best zs) l in
    c
    ∙ rw (b, v)
    (by_test (outranks e m)
    (λ u. rw (best_cons e zs (omega arith), u, outranks_trans e m x u t))
    (λ u. rw (best_cons e zs (omega arith), u, t))))
    (λ t.
    let b : best (zs ++ (x ∷ [])) ≡ length zs = rw t at ih in
    let v : at (zs ++ (x ∷ [])) (length zs) ≡ x = get_or-append_seam zs x [] no_entry in
    c
    ∙ rw (b, v)
    (by_test (outranks e m)
    (λ u. rw (best_cons e zs (omega arith), u))
    (λ u. rw (best_cons e zs (omega arith), u, t, not_outranks_trans e m x u t))))

-- names rise with positions, so of two positions the earlier has the name below
below_is :
    (es : List Entry) → rising es ≡ true → (i j : ℕ) → i < length es → j < length es
    → name_below (at es i) (at es j) ≡ ltb i j
below_is es r i j a c =
    by_test (ltb i j) (λ t. rw t (rising-at es r i j (ltb-true i j t) c))
    (λ t.
    by_test (ltb j i)
    (λ u. rw t (below_asym (at es j).name (at es i).name (rising-at es r j i (ltb-true j i u) a)))
    (λ u. let y = ltb-false i j t in let z = ltb-false j i u in let q : i ≡ j = omega arith in
    rw t (rw q (below_irrefl (at es j).name))))

-- so ranges are ahead of each other as their bests outrank each other
ahead_is : {es : List Entry} → rising es ≡ true → {x y : Range} → RangeInside es x → RangeInside es y
    → is_ahead x y ≡ outranks (at es x.best) (at es y.best)
ahead_is {es} r {x} {y} a b =
    rw (
      a.scored,
      b.scored,
      below_is es r x.best y.best (omega (arith, a.high, a.within))
          (omega (arith, b.high, b.within)),
    )

-- the bests of one slot more
bests_next :
    (es : List Entry) (xs : List Range) (i : ℕ) → i < length xs
    → bests es (take (i + 1) xs) ≡ bests es (take i xs) ++ (at es (get_or xs i no_range).best ∷ [])
bests_next es xs i h =
    let s : i + 1 ≡ suc i = omega arith in
    rw (s, take-suc xs i no_range h) (map-append (λ r. at es r.best) (take i xs) (get_or xs i no_range ∷ []))

best_behind :
    (zs : List Entry) (x : Entry) → 0 < length zs
    → best (zs ++ (x ∷ [])) ≡ (if outranks (at zs (best zs)) x then best zs otherwise length zs)
best_behind [] x h = absurd (omega arith)
best_behind (e ∷ es) x h = best_snoc e es x

-- b is the best of the first i slots
pub record BestSlot (es : List Entry) (xs : List Range) (i : ℕ) (b : BestRange) : Type 0 where
  pub at : b.at ≡ best (bests es (take i xs))
  pub low : b.at < i
  pub range : b.range ≡ get_or xs b.at no_range

module _ {es : List Entry} (ri : rising es ≡ true) {xs : List Range} where
  -- one slot more
  best_step :
      {i : ℕ} {b : BestRange} → BestSlot es xs i b → i < length xs → RangeInside es b.range
      → RangeInside es (get_or xs i no_range)
      → BestSlot es xs (i + 1) (better_range b i (get_or xs i no_range))
  best_step {i} {b} s l c d =
      let x = get_or xs i no_range in
      let n : length (take i xs) ≡ i = length-take-le i xs (omega arith) in
      let k : length (bests es (take i xs)) ≡ i = length-bests es (take i xs) ∙ n in
      let here : Entries.at (bests es (take i xs)) (best (bests es (take i xs))) ≡ Entries.at es b.range.best =
      rw (← s.at) (at_map es (take i xs) b.at (omega (arith, s.low))
      ∙ ap (λ r. Entries.at es r.best) (get_or-take i xs b.at no_range s.low ∙ sym s.range))
      in
      let w = best_behind (bests es (take i xs)) (Entries.at es x.best) (omega (arith, s.low)) in
      let v = bests_next es xs i l in
      let o = ahead_is ri c d in
      by_test (is_ahead b.range x)
      (λ t.
      rw t
      (record {
        at = s.at ∙ sym (ap best v ∙ w ∙ rw (here, ← o, t));
        low = omega (arith, s.low);
        range = s.range;
      }))
      (λ t.
      rw t
      (record {
        at = sym (ap best v ∙ w ∙ rw (here, ← o, t) k);
        low = omega arith;
        range = refl;
      }))

  -- all of them
  best_rest :
      (k i : ℕ) (b : BestRange) → BestSlot es xs i b → i + k ≤ length xs
      → ((r : Range) → r ∈ take (i + k) xs → RangeInside es r)
      → BestSlot es xs (i + k) (best_from xs k i b)
  best_rest zero i b s l inside = rw (add-zero i) s
  best_rest (suc k) i b s l inside =
      let z : i + suc k ≡ i + 1 + k = omega arith in
      let w : ((r : Range) → r ∈ take (i + 1 + k) xs → RangeInside es r) = rw z at inside in
      let at_slot : (j : ℕ) → j < i + suc k → RangeInside es (get_or xs j no_range) =
      (λ j h.
      rw (← get_or-take (i + suc k) xs j no_range h)
      (inside (get_or (take (i + suc k) xs) j no_range)
      (get_in no_range (take (i + suc k) xs) j (rw (length-take-le (i + suc k) xs l) h))))
      in
      rw z
      (best_rest k (i + 1) (better_range b i (get_or xs i no_range))
      (best_step s (omega arith) (rw s.range (at_slot b.at (omega (arith, s.low)))) (at_slot i (omega arith)))
      (omega arith) w)

  -- the best of the first n slots is the range that the machine chooses of them
  pub best_of_lem :
      (n : ℕ) → 0 < n → n ≤ length xs → ((r : Range) → r ∈ take n xs → RangeInside es r)
      → BestSlot es xs n (best_of xs n)
  best_of_lem n ne l inside =
      let z : 1 + (n - 1) ≡ n = omega arith in
      let one : BestSlot es xs 1 (record { at = 0; range = get_or xs 0 no_range }) = record {
        at = first xs;
        low = omega arith;
        range = refl;
      } in
      rw z at (best_rest (n - 1) 1 (record { at = 0; range = get_or xs 0 no_range }) one (omega arith)
      (rw (← z) at inside))
    where
      first : (ys : List Range) → 0 ≡ best (bests es (take 1 ys))
      first [] = refl
      first (y ∷ ys) = refl

-- the search for the best of the first n slots, before slot i: with b as the best so far it gives what it is to give
pub record BestLeft (xs : List Range) (n : ℕ) (b : BestRange) (i : ℕ) : Type 0 where
  pub rest : best_from xs (n - i) i b ≡ best_of xs n
  pub low : b.at < i
  pub high : i ≤ n

pub left_turn : (xs : List Range) (n : ℕ) {b : BestRange} {i : ℕ} → BestLeft xs n b i → i < n
    → BestLeft xs n (better_range b i (get_or xs i no_range)) (i + 1)
left_turn xs n {b} {i} l h =
    let z : n - i ≡ suc (n - (i + 1)) = omega arith in
    record {
      rest = rw z at l.rest;
      low = by_test (is_ahead b.range (get_or xs i no_range)) (λ t. rw t (omega (arith, l.low)))
          (λ t. rw t (omega arith));
      high = omega arith;
    }

pub left_end : (xs : List Range) (n : ℕ) {b : BestRange} {i : ℕ} → BestLeft xs n b i → n ≤ i → b ≡ best_of xs n
left_end xs n {b} {i} l h = let z : n - i ≡ 0 = omega arith in rw z at l.rest

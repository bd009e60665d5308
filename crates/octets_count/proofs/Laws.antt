-- Counts of low bytes: of lists one after the other, of a front, of one more byte; and that a list that counts none has
-- none anywhere.
use Rattle.std.specs.Simd.{first_chunks}
use Prim.Native.Nat.{◌*◌, ◌+◌, ◌<◌, ◌≤◌, suc, zero, ℕ}
use mathlib.Core.Path.{◌∙◌, ◌≡◌, ap, refl}
use mathlib.Core.List.{List, [], ◌++◌, ◌∷◌}
use lib.ListN.{drop, get_or, length, take, take-append-drop}
use lib.Seq.{drop-drop, take-add, take-suc}
use native.Mathlib.Numerals.{add-one}
use native.Mathlib.Nat.{suc-mul, zero-mul}
use native.Mathlib.Omega.{arith}
use borrow.Author.Tests.{ltb-false}
use Rattle.octets.proofs.Count.{count-append}
use Rattle.octets.proofs.Tests.{by_test}
use Rattle.octets_count.specs.Counts.{is_low, low_count, low_of}

-- the count of one list behind another
pub low_append : (a b : List ℕ) → low_count (a ++ b) ≡ low_count a + low_count b
unfolding low_count
low_append a b = count-append is_low a b

pub low_none : low_count [] ≡ 0
unfolding low_count
low_none = refl

pub low_cons : (x : ℕ) (w : List ℕ) → low_count (x ∷ w) ≡ low_of x + low_count w
unfolding low_count
low_cons x w = by_test (is_low x) (λ t. rw t (omega arith)) (λ t. rw t (omega arith))

-- a front of a + b bytes, and one of one byte more
pub low_both : (a b : ℕ) (w : List ℕ) → low_count (take (a + b) w) ≡ low_count (take a w) + low_count (take b (drop a w))
low_both a b w = ap low_count (take-add a b w) ∙ low_append (take a w) (take b (drop a w))

pub low_more : (i : ℕ) (w : List ℕ) → i < length w
    → low_count (take (i + 1) w) ≡ low_count (take i w) + low_of (get_or w i 0)
low_more i w h =
    let a = low_append (take i w) (get_or w i 0 ∷ []) in
    let c = low_cons (get_or w i 0) [] in
    let n = low_none in
    let q : low_count (take (i + 1) w) ≡ low_count (take i w
    ++ (get_or w i 0 ∷ [])) = ap low_count (rw add-one (take-suc w i 0 h)) in
    omega arith

-- none is low
pub none_low : (w : List ℕ) → low_count w ≡ 0 → (i : ℕ) → i < length w → 0x20 ≤ get_or w i 0
none_low [] e i h = absurd (omega arith)
none_low (x ∷ w) e zero h =
    let c = low_cons x w in
    by_test (is_low x)
    (λ t. let z : low_count (x ∷ w) ≡ 1 + low_count w = rw t at c in absurd (omega arith))
    (λ t. ltb-false x 0x20 t)
none_low (x ∷ w) e (suc i) h = let c = low_cons x w in none_low w (omega arith) i (omega arith)

-- no more than there are bytes
pub low_few : (w : List ℕ) → low_count w ≤ length w
low_few [] = let n = low_none in omega arith
low_few (x ∷ w) =
    let c = low_cons x w in
    let ih = low_few w in
    by_test (is_low x)
    (λ t. let z : low_count (x ∷ w) ≡ 1 + low_count w = rw t at c in omega arith)
    (λ t. let z : low_count (x ∷ w) ≡ 0 + low_count w = rw t at c in omega arith)

-- the i-th of k stretches of n bytes, and the front that ends behind it
chunk_at : (n k : ℕ) (w : List ℕ) (i : ℕ) → i < k → get_or (first_chunks n k w) i [] ≡ take n (drop (i * n) w)
chunk_at n zero w i h = absurd (omega arith)
chunk_at n (suc k) w zero h = rw (zero-mul n)
chunk_at n (suc k) w (suc i) h =
    chunk_at n k (drop n w) i (omega arith)
    ∙ ap (take n) (drop-drop (i * n) n w ∙ ap (λ m. drop m w) (omega (arith, suc-mul i n)))

pub low_next :
    (n k : ℕ) (w : List ℕ) (i : ℕ) → i < k
    → low_count (take ((i + 1) * n) w) ≡ low_count (take (i * n) w) + low_count (get_or (first_chunks n k w) i [])
low_next n k w i h =
    let e : (i + 1) * n ≡ i * n + n = omega (arith, suc-mul i n) in
    rw (chunk_at n k w i h, e) (low_both (i * n) n w)

-- a front and what is behind it
pub low_all : (i : ℕ) (w : List ℕ) → low_count (take i w) + low_count (drop i w) ≡ low_count w
low_all i w = rw (← low_append (take i w) (drop i w), take-append-drop)

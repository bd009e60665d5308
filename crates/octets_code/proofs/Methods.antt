-- What the library's methods on slices say, in the words of the definitions.
use Rattle.std.specs.Prelude.{◌≡◌, ℕ, ◌+◌, ◌-◌, ◌<◌, ◌≤◌, suc, zero, min, List, [], ◌∷◌, drop, length, take}
use Rattle.std.specs.Prelude.{nat_eq}
use Rattle.std.specs.Cmp.Lexicographic.{pointwise, slice_cmp}
use Rattle.std.specs.Int.{from_be_bytes, to_be_bytes, w16, w32}
use Rattle.std.specs.List.{AllWithin, HoldsAt, zip}
use Rattle.std.specs.Option.{MatchOption, unwrap_or}
use Rattle.std.specs.declared.option.Option.{Option}
use Rattle.std.specs.Ordering.{is_lt, nat_cmp}
use Rattle.std.specs.declared.cmp.Ordering.{Ordering}
use Rattle.std.proofs.Common.{◌∙◌, append_assoc, ◌≢◌, add-one, eqb, refl, arith, leb, set, sym}
use Rattle.std.proofs.Math.Nat.{div-one}
use Rattle.std.proofs.Math.ListN.{length-drop, length-set}
use Rattle.std.proofs.Math.Seq.{drop-drop, length-take-le, sets-eq, take_all}
use Rattle.std.proofs.lemmas.Bool.Decides.{nat_tests}
use Rattle.std.proofs.lemmas.Cmp.{same_from_slice_cmp}
use Rattle.std.proofs.lemmas.Iterator.{index_from_first}
use Rattle.std.proofs.lemmas.List.Edits.{sets}
use Rattle.std.proofs.lemmas.Slice.Zip.{length-zip}
use borrow.Author.Tests.{eq-eqb, le-leb, leb-false, leb-true, lt-leb, ne_eqb}
use borrow.Rule.Slice.PartMut.{put_mid}
use Rattle.octets.specs.Lists.{if◌then◌otherwise◌}
use Rattle.octets.specs.Octets.{be, begins, below, common, from_be, number_at}
use Rattle.octets.proofs.Tests.{by_test}
use Rattle.octets_code.proofs.Loops.{sets_out}

-- whether a list begins another: `starts_with` compares it with as much of the other
pub begins_is : (p s : List ℕ) → pointwise nat_eq p (take (length p) s) ≡ begins p s
begins_is [] s = refl
begins_is (x ∷ p) [] = refl
begins_is (x ∷ p) (y ∷ s) = rw (begins_is p s)

-- byte order: `cmp` answers `Less`
pub below_is : (a b : List ℕ) (o : Ordering) → o ≡ slice_cmp nat_cmp a b → is_lt o ≡ below a b
below_is = same_from_slice_cmp nat_cmp is_lt below refl (λ _ _. refl) (λ _ _. refl) (λ x y xs ys o h. grind (arith, nat_tests))

-- the longest common prefix: where two lists side by side have their first pair of unequal bytes
abbrev shared : List (ℕ × ℕ) → ℕ
shared [] = 0
shared (p ∷ ps) = if eqb p.0 p.1 then shared ps + 1 otherwise 0

shared-zip : (a b : List ℕ) → shared (zip a b) ≡ common a b
shared-zip [] b = refl
shared-zip (x ∷ a) [] = refl
shared-zip (x ∷ a) (y ∷ b) = by_test (eqb x y) (λ t. rw (t, shared-zip a b, add-one)) (λ t. rw t)

pub common_first :
    (a b : List ℕ) (r : Option ℕ)
    → MatchOption r (AllWithin (λ p. p.0 ≡ p.1) (zip a b) 0 (length (zip a b)))
    (λ i. (i < length (zip a b)) × HoldsAt (λ p. p.0 ≢ p.1) (zip a b) i × AllWithin (λ p. p.0 ≡ p.1) (zip a b) 0 i)
    → unwrap_or r (min (length a) (length b)) ≡ common a b
common_first a b r h =
    rw (← length-zip a b, ← shared-zip a b)
    (sym (index_from_first shared (λ p. p.0 ≢ p.1) (λ p. p.0 ≡ p.1) refl
    (λ p ps n. rw (ne_eqb p.0 p.1 n))
    (λ p ps e. rw (eq-eqb p.0 p.1 e))
    (zip a b) r h))

-- where only k bytes fit, the others are left out
sets_short : (l : List ℕ) (i k : ℕ) (vs : List ℕ) → length l ≤ i + k → sets l i vs ≡ sets l i (take k vs)
sets_short l i zero vs h = sets_out l i vs (omega arith)
sets_short l i (suc k) [] h = refl
sets_short l i (suc k) (v ∷ vs) h = sets_short (set l i v) (suc i) k vs (omega (arith, length-set l i v))

-- a part of a list that takes the bytes of another, as many as it has places for
pub sets_part :
    (l : List ℕ) (at n : ℕ) (vs : List ℕ) → at < length l → n ≡ min (length vs) (length l - at)
    → put_mid at (at + n - at) l (take n vs) ≡ sets l at vs
sets_part l at n vs h e =
    let z : at + n - at ≡ n = omega arith in
    let m : length (take n vs) ≡ n = length-take-le n vs (omega arith) in
    let w : sets l at vs ≡ sets l at (take n vs) =
    by_test (leb (length vs) n)
    (λ t. rw (take_all n vs (leb-true (length vs) n t)))
    (λ t. let k = leb-false (length vs) n t in sets_short l at n vs (omega arith)) in
    rw (z, w, sets-eq (take n vs) l at (omega arith), m, drop-drop n at l, append_assoc)

-- numbers: the library's, and those of the definitions
from_be_two : (bs : List ℕ) → length bs ≡ 2 → from_be_bytes w16 bs ≡ from_be bs
unfolding from_be
from_be_two [] h = absurd (omega arith)
from_be_two (a ∷ []) h = absurd (omega arith)
from_be_two (a ∷ b ∷ []) h = omega arith
from_be_two (a ∷ b ∷ c ∷ bs) h = absurd (omega arith)

from_be_four : (bs : List ℕ) → length bs ≡ 4 → from_be_bytes w32 bs ≡ from_be bs
unfolding from_be
from_be_four [] h = absurd (omega arith)
from_be_four (a ∷ []) h = absurd (omega arith)
from_be_four (a ∷ b ∷ []) h = absurd (omega arith)
from_be_four (a ∷ b ∷ c ∷ []) h = absurd (omega arith)
from_be_four (a ∷ b ∷ c ∷ d ∷ []) h = omega arith
from_be_four (a ∷ b ∷ c ∷ d ∷ e ∷ bs) h = absurd (omega arith)

-- the k bytes from an index on, where there are as many and where there are not
pub number_in : (k : ℕ) (bs : List ℕ) (i : ℕ) → i + k ≤ length bs → number_at k bs i ≡ from_be (take k (drop i bs))
unfolding number_at
number_in k bs i h = rw (le-leb (i + k) (length bs) h)

pub number_out : (k : ℕ) (bs : List ℕ) (i : ℕ) → length bs < i + k → number_at k bs i ≡ 0
unfolding number_at
number_out k bs i h = rw (lt-leb (i + k) (length bs) h)

pub read_two :
    (s : List ℕ) (at : ℕ) (bytes : List ℕ) {r : ℕ} → at + 2 ≤ length s → bytes ≡ take 2 (drop at s)
    → r ≡ from_be_bytes w16 bytes → r ≡ number_at 2 s at
read_two s at bytes h e f =
    let m : length (take 2 (drop at s)) ≡ 2 = length-take-le 2 (drop at s) (omega (arith, length-drop at s)) in
    f ∙ rw (e, number_in 2 s at h) (from_be_two (take 2 (drop at s)) m)

pub read_four :
    (s : List ℕ) (at : ℕ) (bytes : List ℕ) {r : ℕ} → at + 4 ≤ length s → bytes ≡ take 4 (drop at s)
    → r ≡ from_be_bytes w32 bytes → r ≡ number_at 4 s at
read_four s at bytes h e f =
    let m : length (take 4 (drop at s)) ≡ 4 = length-take-le 4 (drop at s) (omega (arith, length-drop at s)) in
    f ∙ rw (e, number_in 4 s at h) (from_be_four (take 4 (drop at s)) m)

-- the bytes of a number
pub to_be_two : (v : ℕ) → to_be_bytes w16 v ≡ be 2 v
unfolding be
to_be_two v = rw div-one

pub to_be_four : (v : ℕ) → to_be_bytes w32 v ≡ be 4 v
unfolding be
to_be_four v = rw div-one

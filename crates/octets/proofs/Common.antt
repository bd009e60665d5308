-- What lists of bytes share: the longest common prefix of two, and those of each two of three.
use Prim.Native.Nat.{◌-◌, ◌≤◌, min, suc, zero, ℕ}
use mathlib.Core.Path.{◌∙◌, ◌≡◌, ap, refl, sym}
use mathlib.Core.Bool.{false≢true, true}
use mathlib.Core.List.{List, [], ◌++◌, ◌∷◌}
use lib.Dec.{eqb}
use lib.ListN.{drop, length, take}
use native.Mathlib.Omega.{arith}
use borrow.Author.Tests.{eq-eqb, eqb-false, eqb-true, ltb-true, ne_eqb}
use Rattle.octets.specs.Octets.{below, common}
use Rattle.octets.proofs.Tests.{by_test, eqb_self, eqb_swap}

-- of two, in either order; of a list and its own front
pub common_swap : (a b : List ℕ) → common a b ≡ common b a
common_swap [] [] = refl
common_swap [] (y ∷ b) = refl
common_swap (x ∷ a) [] = refl
common_swap (x ∷ a) (y ∷ b) =
    by_test (eqb x y)
    (λ t. rw (t, eq-eqb y x (sym (eqb-true x y t))) (ap suc (common_swap a b)))
    (λ t. rw (t, eqb_swap x y t))

pub common-front : (k : ℕ) (w : List ℕ) → k ≤ length w → common (take k w) w ≡ k
common-front zero w h = refl
common-front (suc k) [] h = absurd (omega arith)
common-front (suc k) (x ∷ w) h = rw (eqb_self x) (ap suc (common-front k w (omega arith)))

-- any three: two of the shared lengths are not both more than the third
pub three : (a b c : List ℕ) → min (common a b) (common b c) ≤ common a c
three [] b c = omega arith
three (x ∷ a) [] c = omega arith
three (x ∷ a) (y ∷ b) [] = omega arith
three (x ∷ a) (y ∷ b) (z ∷ c) =
    by_test (eqb x y)
    (λ t.
    by_test (eqb y z)
    (λ u.
    let p = eqb-true x y t in
    let q = eqb-true y z u in
    let ih = three a b c in
    rw (t, u, eq-eqb x z (omega arith)) (omega arith))
    (λ u. rw (t, u) (omega arith)))
    (λ t. rw t (omega arith))

-- in order: the outer two share what the least of the others is
pub between : (a b c : List ℕ) → below a b ≡ true → below b c ≡ true → common a c ≡ min (common a b) (common b c)
between a b [] h k = absurd (false≢true k)
between a [] (z ∷ c) h k = absurd (false≢true h)
between [] (y ∷ b) (z ∷ c) h k = omega arith
between (x ∷ a) (y ∷ b) (z ∷ c) h k =
    by_test (eqb x y)
    (λ t.
    let p = eqb-true x y t in
    by_test (eqb y z)
    (λ u.
    let q = eqb-true y z u in
    let ih = between a b c (rw t at h) (rw u at k) in
    rw (t, u, eq-eqb x z (omega arith)) (omega arith))
    (λ u.
    let q = eqb-false y z u in
    rw (t, u, ne_eqb x z (λ e. q (omega arith))) (omega arith)))
    (λ t.
    let p = eqb-false x y t in
    let l = ltb-true x y (rw t at h) in
    by_test (eqb y z)
    (λ u.
    let q = eqb-true y z u in
    rw (t, u, ne_eqb x z (λ e. p (omega arith))) (omega arith))
    (λ u.
    let m = ltb-true y z (rw u at k) in
    rw (t, u, ne_eqb x z (λ e. p (absurd (omega arith)))) (omega arith)))

-- what stands behind c bytes of a name that shares k of its bytes with another: those of the other up to k, then its
-- own
pub rest_through : (c : ℕ) (b d : List ℕ) → c ≤ common b d → drop c d ≡ take (common b d - c) (drop c b)
    ++ drop (common b d) d
rest_through zero [] d h = refl
rest_through zero (y ∷ b) [] h = refl
rest_through zero (y ∷ b) (z ∷ d) h =
    by_test (eqb y z)
    (λ t.
    let e = eqb-true y z t in
    let ih = rest_through zero b d (omega arith) in
    let n : suc (common b d) - 0 ≡ suc (common b d) = omega arith in
    let m : common b d - 0 ≡ common b d = omega arith in
    rw (t, n) (ap (λ l. z ∷ l) (rw m at ih) ∙ ap (λ v. v ∷ (take (common b d) b ++ drop (common b d) d)) (sym e)))
    (λ t. rw t)
rest_through (suc c) [] d h = absurd (omega arith)
rest_through (suc c) (y ∷ b) [] h = absurd (omega arith)
rest_through (suc c) (y ∷ b) (z ∷ d) h =
    by_test (eqb y z)
    (λ t.
    let ih = rest_through c b d (omega (arith, (rw t at h))) in
    let n : suc (common b d) - suc c ≡ common b d - c = omega arith in
    rw (t, n) ih)
    (λ t. absurd (omega (arith, (rw t at h))))

-- Three lists of which one stands behind another: what the bytes that they share say of their order.
use Prim.Native.Nat.{◌+◌, ◌<◌, ◌≤◌, suc, zero, ℕ}
use mathlib.Core.Path.{◌≡◌, ap, refl, sym}
use mathlib.Core.Bool.{false, false≢true, true}
use mathlib.Core.List.{List, [], ◌∷◌}
use lib.Dec.{eqb}
use lib.ListN.{drop, get_or, length}
use native.Mathlib.Omega.{arith}
use borrow.Author.Tests.{eq-eqb, eqb-false, eqb-true, le-ltb, lt-ltb, ltb-true, ne_eqb}
use Rattle.octets.specs.Octets.{begins, below, common}
use Rattle.octets.proofs.Tests.{by_test, eqb_swap}

-- w shares more with p than p with the key: w stands to the key as p does
pub shares_more :
    (p w k : List ℕ) → common p k < common p w → (common w k ≡ common p k) × (below w k ≡ below p k)
shares_more [] w k h = absurd (omega arith)
shares_more (x ∷ p) [] k h = absurd (omega arith)
shares_more (x ∷ p) (y ∷ w) [] h = (refl, refl)
shares_more (x ∷ p) (y ∷ w) (z ∷ k) h =
    by_test (eqb x y)
    (λ t.
    let e = eqb-true x y t in
    by_test (eqb x z)
    (λ u.
    let f : eqb y z ≡ true = rw (← e) u in
    let ih = shares_more p w k (omega (arith, (rw (t, u) at h))) in
    rw (u, f) (ap suc ih.0, ih.1))
    (λ u.
    let f : eqb y z ≡ false = rw (← e) u in
    rw (u, f) (refl, (rw (← e)))))
    (λ t. absurd (omega (arith, (rw t at h))))

-- w shares less with p than the key does, and is above p: it is past the key
pub shares_less :
    (p w k : List ℕ) → common p w < common p k → below p w ≡ true
    → (common w k ≡ common p w) × (below w k ≡ false) × (begins k w ≡ false)
shares_less [] w k h b = absurd (omega arith)
shares_less (x ∷ p) w [] h b = absurd (omega arith)
shares_less (x ∷ p) [] (z ∷ k) h b = absurd (false≢true b)
shares_less (x ∷ p) (y ∷ w) (z ∷ k) h b =
    by_test (eqb x z)
    (λ u.
    let e = eqb-true x z u in
    by_test (eqb x y)
    (λ t.
    let d = eqb-true x y t in
    let f : eqb y z ≡ true = eq-eqb y z (omega arith) in
    let g : eqb z y ≡ true = eq-eqb z y (omega arith) in
    let ih = shares_less p w k (omega (arith, (rw (t, u) at h))) (rw t at b) in
    rw (t, f, g) (ap suc ih.0, ih.1, ih.2))
    (λ t.
    let n = eqb-false x y t in
    let l = ltb-true x y (rw t at b) in
    let f : eqb y z ≡ false = ne_eqb y z (λ q. n (omega arith)) in
    let g : eqb z y ≡ false = ne_eqb z y (λ q. n (omega arith)) in
    rw (t, f, g) (refl, le-ltb y z (omega arith), refl)))
    (λ u. absurd (omega (arith, (rw u at h))))

-- both share m bytes with p: what stands behind these decides
pub shares_both :
    (m : ℕ) (p w k : List ℕ) → m ≤ common p w → m ≤ common p k
    → (common w k ≡ m + common (drop m w) (drop m k)) × (below w k ≡ below (drop m w) (drop m k))
    × (begins k w ≡ begins (drop m k) (drop m w))
shares_both zero p w k h g = (omega arith, refl, refl)
shares_both (suc m) [] w k h g = absurd (omega arith)
shares_both (suc m) (x ∷ p) [] k h g = absurd (omega arith)
shares_both (suc m) (x ∷ p) (y ∷ w) [] h g = absurd (omega arith)
shares_both (suc m) (x ∷ p) (y ∷ w) (z ∷ k) h g =
    by_test (eqb x y)
    (λ t.
    by_test (eqb x z)
    (λ u.
    let d = eqb-true x y t in
    let e = eqb-true x z u in
    let a : eqb y z ≡ true = eq-eqb y z (omega arith) in
    let b : eqb z y ≡ true = eq-eqb z y (omega arith) in
    let ih = shares_both m p w k (omega (arith, (rw t at h))) (omega (arith, (rw u at g))) in
    rw (a, b) (omega (arith, ih.0), ih.1, ih.2))
    (λ u. absurd (omega (arith, (rw u at g)))))
    (λ t. absurd (omega (arith, (rw t at h))))

-- two lists that share n bytes and no more: what stands behind these decides
pub record Decided (a b : List ℕ) (n : ℕ) : Type 0 where
  pub begun : length b ≤ n → begins b a ≡ true
  pub ended : n < length b → length a ≤ n → below a b ≡ true
  pub under : n < length a → n < length b → get_or a n 0 < get_or b n 0 → below a b ≡ true
  pub over : n < length a → n < length b → get_or b n 0 ≤ get_or a n 0 → (below a b ≡ false) × (begins b a ≡ false)

pub decided : (a b : List ℕ) → Decided a b (common a b)
decided [] [] =
    record {
      begun = λ h. refl;
      ended = λ h k. absurd (omega arith);
      under = λ h k l. absurd (omega arith);
      over = λ h k l. absurd (omega arith);
    }
decided [] (y ∷ b) =
    record {
      begun = λ h. absurd (omega arith);
      ended = λ h k. refl;
      under = λ h k l. absurd (omega arith);
      over = λ h k l. absurd (omega arith);
    }
decided (x ∷ a) [] =
    record {
      begun = λ h. refl;
      ended = λ h k. absurd (omega arith);
      under = λ h k l. absurd (omega arith);
      over = λ h k l. absurd (omega arith);
    }
decided (x ∷ a) (y ∷ b) =
    let ih = decided a b in
    by_test (eqb x y)
    (λ t.
    let e : eqb y x ≡ true = eq-eqb y x (sym (eqb-true x y t)) in
    rw t
    (record {
      begun = λ h. rw e (ih.begun (omega arith));
      ended = λ h k. rw t (ih.ended (omega arith) (omega arith));
      under = λ h k l. rw t (ih.under (omega arith) (omega arith) l);
      over = λ h k l. rw (t, e) (ih.over (omega arith) (omega arith) l);
    }))
    (λ t.
    rw t
    (record {
      begun = λ h. absurd (omega arith);
      ended = λ h k. absurd (omega arith);
      under = λ h k l. rw t (lt-ltb x y l);
      over = λ h k l. rw (t, eqb_swap x y t) (le-ltb x y l, refl);
    }))

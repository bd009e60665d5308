-- Checks in the order of `turn`: of those that apply the one given has the first turn.
use Prim.Native.Nat.{◌<◌, ◌≤◌, ℕ}
use mathlib.Core.Path.{◌≡◌, refl}
use mathlib.Core.Logic.{◌⊎◌, inl, inr}
use mathlib.Core.Bool.{Bool, ◌&&◌, true}
use mathlib.Core.List.{List, [], ◌∷◌}
use lib.Dec.{ltb}
use native.Mathlib.Omega.{arith}
use borrow.Author.Tests.{ltb-true}
use Rattle.octets.specs.Lists.{◌∈◌}
use Rattle.octets.proofs.Tests.{and_true_both, by_test}
use Rattle.answer.specs.Answers.{Answer, Check, applying, refused, unless}
use Rattle.promises.specs.Refusals.{turn}

-- a check's turn
abbrev its : Check → ℕ
its c = turn c.number

abbrev pub in_order : List Check → Bool
in_order [] = true
in_order (c ∷ []) = true
in_order (c ∷ d ∷ cs) = ltb (its c) (its d) && in_order (d ∷ cs)

order_rest : (c : Check) (cs : List Check) → in_order (c ∷ cs) ≡ true → in_order cs ≡ true
order_rest c [] o = refl
order_rest c (d ∷ cs) o = (and_true_both (ltb (its c) (its d)) (in_order (d ∷ cs)) o).1

order_next : (c d : Check) (cs : List Check) → in_order (c ∷ d ∷ cs) ≡ true → its c < its d
order_next c d cs o = ltb-true (its c) (its d) (and_true_both (ltb (its c) (its d)) (in_order (d ∷ cs)) o).0

-- a number that applies is that of the first, or of one behind it
first_or : (c : Check) (cs : List Check) (m : ℕ) → m ∈ applying (c ∷ cs) → (m ≡ c.number) ⊎ (m ∈ applying cs)
first_or c cs m i = by_test c.applies (λ t. rw t at i) (λ t. inr (rw t at i))

-- those behind have later turns
order_behind :
    (c d : Check) (cs : List Check) (m : ℕ) → its c < its d → (m ∈ applying cs → its d ≤ turn m)
    → (m ≡ d.number) ⊎ (m ∈ applying cs) → its c ≤ turn m
order_behind c d cs m l f (inl q) = rw q (omega arith)
order_behind c d cs m l f (inr i) = let w = f i in omega arith

order_first : (c : Check) (cs : List Check) → in_order (c ∷ cs) ≡ true → (m : ℕ) → m ∈ applying cs → its c ≤ turn m
order_first c [] o m i = absurd i
order_first c (d ∷ cs) o m i =
    order_behind c d cs m (order_next c d cs o) (order_first d cs (order_rest c (d ∷ cs) o) m) (first_or d cs m i)

pub first_given :
    {A : Type 0} (cs : List Check) (a : A) (n : ℕ) → in_order cs ≡ true → unless cs a ≡ refused n → (m : ℕ)
    → m ∈ applying cs → turn n ≤ turn m
first_given [] a n o h m i = absurd i
first_given {A} (c ∷ cs) a n o h m i =
    by_test c.applies
    (λ t.
    let z : ◌≡◌ {A = Answer A} (refused c.number) (refused n) = rw t at h in
    let e : c.number ≡ n = cc in
    rw (← e) (least (first_or c cs m i)))
    (λ t. first_given cs a n (order_rest c cs o) (rw t at h) m (rw t at i))
  where
    least : (m ≡ c.number) ⊎ (m ∈ applying cs) → its c ≤ turn m
    least (inl q) = rw q (omega arith)
    least (inr j) = order_first c cs o m j

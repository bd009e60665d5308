-- The decimal digits of a number: how many there are, and the number that they give.
use Prim.Native.Nat.{◌%◌, ◌*◌, ◌+◌, ◌-◌, ◌/◌, ◌<◌, ◌^◌, ◌≤◌, suc, zero, ℕ}
use mathlib.Core.Path.{◌∙◌, ◌≡◌, ap, refl}
use mathlib.Core.Bool.{true}
use mathlib.Core.List.{List, [], ◌++◌, ◌∷◌}
use lib.Dec.{leb, ltb}
use lib.ListN.{length, length-append}
use native.Mathlib.Nat.{pow-suc}
use native.Mathlib.Omega.{arith}
use borrow.Author.Tests.{le-leb, le-ltb, lt-ltb, ltb-false, ltb-true}
use Rattle.octets.specs.Decimal.{decimal, decimal_to, value_on}
use Rattle.octets.specs.Lists.{all}
use Rattle.octets.proofs.Lists.{all_append}
use Rattle.octets.proofs.Tests.{by_test}

pub decimal-one : (d v : ℕ) → v < 10 → decimal_to (suc d) v ≡ (48 + v) ∷ []
decimal-one d v h = rw (lt-ltb v 10 h, decimal_to)

pub decimal_more : (d v : ℕ) → 10 ≤ v → decimal_to (suc d) v ≡ decimal_to d (v / 10) ++ ((48 + v % 10) ∷ [])
decimal_more d v h = rw (le-ltb v 10 h, decimal_to)

decimal_to_most : (d v : ℕ) → length (decimal_to d v) ≤ d
decimal_to_most zero v = omega arith
decimal_to_most (suc d) v =
    by_test (ltb v 10)
    (λ t. omega (arith, ap length (decimal-one d v (ltb-true v 10 t))))
    (λ t.
    let e = ap length (decimal_more d v (ltb-false v 10 t)) in
    omega (arith, length-append (decimal_to d (v / 10)) ((48 + v % 10) ∷ []), decimal_to_most d (v / 10)))

pub decimal_most : (v : ℕ) → length (decimal v) ≤ 10
unfolding decimal
decimal_most v = decimal_to_most 10 v

value_append : (a : ℕ) (xs ys : List ℕ) → value_on a (xs ++ ys) ≡ value_on (value_on a xs) ys
value_append a [] ys = refl
value_append a (x ∷ xs) ys = value_append (a * 10 + (x - 48)) xs ys

decimal_to_value : (d v : ℕ) → v < 10 ^ d → value_on 0 (decimal_to d v) ≡ v
decimal_to_value zero v h = omega arith
decimal_to_value (suc d) v h =
    by_test (ltb v 10)
    (λ t. ap (value_on 0) (decimal-one d v (ltb-true v 10 t)) ∙ omega arith)
    (λ t.
    let s : v < 10 ^ d * 10 = rw (pow-suc 10 d) at h in
    let ih = decimal_to_value d (v / 10) (omega arith) in
    ap (value_on 0) (decimal_more d v (ltb-false v 10 t))
    ∙ value_append 0 (decimal_to d (v / 10)) ((48 + v % 10) ∷ [])
    ∙ rw ih (omega arith))

-- the digits give their number
pub decimal_value : (v : ℕ) → v < 10 ^ 10 → value_on 0 (decimal v) ≡ v
unfolding decimal
decimal_value v h = decimal_to_value 10 v h

decimal_to-digits : (d v : ℕ) → all (leb 48) (decimal_to d v) ≡ true
decimal_to-digits zero v = refl
decimal_to-digits (suc d) v =
    by_test (ltb v 10)
    (λ t. rw (decimal-one d v (ltb-true v 10 t), le-leb 48 (48 + v) (omega arith)))
    (λ t.
    rw (decimal_more d v (ltb-false v 10 t))
    (all_append (leb 48) (decimal_to d (v / 10)) ((48 + v % 10) ∷ []) (decimal_to-digits d (v / 10))
    (rw (le-leb 48 (48 + v % 10) (omega arith)))))

-- none of them is below 0's
pub decimal-digits : (v : ℕ) → all (leb 48) (decimal v) ≡ true
unfolding decimal
decimal-digits v = decimal_to-digits 10 v

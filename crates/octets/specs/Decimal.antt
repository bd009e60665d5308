-- Numbers in decimal: the digits of a number, and the number that digits give.
use Rattle.std.specs.Prelude.{◌%◌, ◌*◌, ◌+◌, ◌-◌, ◌/◌, suc, zero, ℕ, false, true, List, [], ◌++◌, ◌∷◌, ltb}

-- a number in decimal, of at most d digits
abbrev pub decimal_to : ℕ → ℕ → List ℕ
decimal_to zero v = []
decimal_to (suc d) v = elim (ltb v 10) [ true ↦ (48 + v) ∷ [] | false ↦ decimal_to d (v / 10) ++ ((48 + v % 10) ∷ []) ]

unfoldable pub decimal : ℕ → List ℕ
decimal v = decimal_to 10 v

-- the number that digits give, behind those whose number is a
abbrev pub value_on : ℕ → List ℕ → ℕ
value_on a [] = a
value_on a (b ∷ bs) = value_on (a * 10 + (b - 48)) bs

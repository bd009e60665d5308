-- Where a text stands behind some of its bytes, as a number: between two signs, behind the first half of a pair, or
-- past a byte that cannot stand in its place. A text is allowed exactly if it ends between signs (`allowed-half`).
use Rattle.std.specs.Prelude.{suc, zero, ℕ, Bool, ◌||◌, List, [], ◌∷◌, eqb}
use Rattle.octets.specs.Lists.{if◌then◌otherwise◌}
use Rattle.entries.specs.Names.{is_plain}

-- no half is open; C2 is, whose other half is B5; CE is, whose other half is A9; no text goes on from here
abbrev pub no_half : ℕ
no_half = 0

abbrev pub micro_half : ℕ
micro_half = 1

abbrev pub ohm_half : ℕ
ohm_half = 2

abbrev pub broken_half : ℕ
broken_half = 3

-- behind one byte more
abbrev pub half_step : ℕ → ℕ → ℕ
half_step zero b =
    if is_plain b then no_half otherwise if eqb b 0xC2 then micro_half otherwise if eqb b 0xCE then ohm_half otherwise broken_half
half_step (suc zero) b = if eqb b 0xB5 then no_half otherwise broken_half
half_step (suc (suc zero)) b = if eqb b 0xA9 then no_half otherwise broken_half
half_step (suc (suc (suc h))) b = broken_half

-- behind all bytes of a text
abbrev pub half_after : ℕ → List ℕ → ℕ
half_after h [] = h
half_after h (b ∷ w) = half_after (half_step h b) w

-- the other half of a pair
abbrev pub is_tail : ℕ → Bool
is_tail b = eqb b 0xB5 || eqb b 0xA9

-- The half that the code carries, as the number that `half_after` has for it, and back.
use Rattle.std.specs.Prelude.{suc, zero, ℕ, List}
use Rattle.entries_laws.specs.Signs.{broken_half, half_after, micro_half, no_half, ohm_half}
use Rattle.entries_laws.specs.declared.Half.TheVariants as half
use Rattle.entries_laws.specs.declared.Half.{Half}

abbrev pub half_number : Half → ℕ
half_number half.None = no_half
half_number half.Micro = micro_half
half_number half.Ohm = ohm_half
half_number half.Broken = broken_half

abbrev pub half_numbered : ℕ → Half
half_numbered zero = half.None
half_numbered (suc zero) = half.Micro
half_numbered (suc (suc zero)) = half.Ohm
half_numbered (suc (suc (suc h))) = half.Broken

-- behind all bytes of a text
abbrev pub half_behind : Half → List ℕ → Half
half_behind h w = half_numbered (half_after (half_number h) w)

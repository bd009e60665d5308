-- `entries_check::past_plain` meets its contract. The loop's invariant: signs of one byte alone stand from the start to
-- `i`.
use mathlib.Core.Path.{◌≡◌}
use lib.ListN.{drop}
use Rattle.entries_laws.specs.Signs.{half_after, no_half}
use Rattle.entries_check.proofs.past_plain.Given as goal

abbrev pub invariant-loop-i : goal.invariant-loop-i
invariant-loop-i l = half_after no_half (drop l.from l.w) ≡ half_after no_half (drop l.i l.w)

-- `entries_check::half_from` meets its contract. The loop's invariant: the same half is open behind the signs from `i`
-- on as behind those from the start on, and no sign of one byte stands at `i`. The measure is what is left of the
-- length.
use Prim.Native.Nat.{◌-◌, ◌<◌, ◌≤◌}
use mathlib.Core.Path.{◌≡◌}
use mathlib.Core.Bool.{false}
use lib.ListN.{drop, get_or, length}
use Rattle.entries.specs.Names.{is_plain}
use Rattle.entries_laws.specs.Signs.{half_after, no_half}
use Rattle.entries_check.proofs.half_from.Given as goal

abbrev pub invariant-loop-i : goal.invariant-loop-i
invariant-loop-i l =
    (l.i ≤ length l.w) × (half_after no_half (drop l.i l.w) ≡ half_after no_half (drop l.from l.w))
    × (l.i < length l.w → is_plain (get_or l.w l.i 0) ≡ false)

abbrev pub decreases-loop-i : goal.decreases-loop-i
decreases-loop-i l = length l.w - l.i

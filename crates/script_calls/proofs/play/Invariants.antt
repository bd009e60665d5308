-- `script_calls::play` meets its contract. The loop's invariant: the calls that are left, performed now, give the whole
-- history. The measure is what is left of the script.
use Prim.Native.Nat.{◌-◌}
use mathlib.Core.Bool.{false}
use lib.ListN.{length}
use Rattle.script.specs.Run.{bench}
use Rattle.script_calls.proofs.Playing.{Playing}
use Rattle.script_calls.proofs.play.Given as goal

abbrev pub invariant-loop-len : goal.invariant-loop-len
invariant-loop-len l =
    Playing l.script (bench l.initial.first l.initial.second false) l.initial.out l.at l.slot (bench l.first l.second l.turned) l.out

abbrev pub decreases-loop-len : goal.decreases-loop-len
decreases-loop-len l = length l.script - l.at

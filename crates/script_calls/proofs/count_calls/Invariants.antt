-- `script_calls::count_calls` meets its contract. The loop's invariant: the calls counted and those that are left are
-- all of them. The measure is what is left of the script.
use Prim.Native.Nat.{◌-◌}
use lib.ListN.{length}
use Rattle.script_calls.proofs.Counting.{Counting}
use Rattle.script_calls.proofs.count_calls.Given as goal

abbrev pub invariant-loop-at : goal.invariant-loop-at
invariant-loop-at l = Counting l.script l.at l.n

abbrev pub decreases-loop-at : goal.decreases-loop-at
decreases-loop-at l = length l.script - l.at

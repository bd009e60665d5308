-- `completion_slots::run` meets its contract. The loop's invariant: the machine goes on as it would have from the start
-- (completion_turn/proofs/Turning). The measure is the number of turns left.
use Rattle.completion_turn.proofs.Turning.{GoesOn}
use Rattle.completion_slots.proofs.run.Given as goal

abbrev pub invariant-loop-p : goal.invariant-loop-p
invariant-loop-p l = GoesOn l.book l.initial.ranges l.initial.p l.ranges l.p

abbrev pub decreases-loop-p : goal.decreases-loop-p
decreases-loop-p l = l.p.turns

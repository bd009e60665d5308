-- `completion_slots::best_of` meets its contract. The loop's invariant: the search goes on from the best so far
-- (completion_turn/proofs/Slots).
use Rattle.completion_turn.proofs.Slots.{BestLeft}
use Rattle.completion_slots.proofs.best_of.Given as goal

abbrev pub invariant-loop-i : goal.invariant-loop-i
invariant-loop-i l = BestLeft l.ranges l.n l.b l.i

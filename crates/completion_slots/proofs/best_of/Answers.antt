use Rattle.completion_turn.proofs.Slots.{left_turn}
use Rattle.completion_slots.proofs.best_of.Goals as goal

pub loop-i-preserved : goal.loop-i-preserved
loop-i-preserved c = rw c.better_range-b.ensures (left_turn _ _ c.loop-i.invariant c.loop-i-test.true)

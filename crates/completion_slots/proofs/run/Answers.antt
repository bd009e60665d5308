use mathlib.Core.Logic.{inr}
use native.Mathlib.Omega.{arith}
use Rattle.completion_turn.proofs.Turning.{goes_end}
use Rattle.completion_slots.proofs.Turning.{goes_on, may_turn}
use Rattle.completion_slots.proofs.run.Goals as goal

pub turn-p-requires : goal.turn-p-requires
turn-p-requires c = may_turn c.requires c.loop-p.invariant c.loop-p-test.true c.if-p-gt0.true c.take_best-r.ensures

pub loop-p-preserved : goal.loop-p-preserved
loop-p-preserved c = goes_on c.requires c.loop-p.invariant c.loop-p-test.true c.if-p-gt0.true c.take_best-r.ensures
    c.turn-p.ensures

pub returns-else-p-gt0 : goal.returns-else-p-gt0
returns-else-p-gt0 c = goes_end c.loop-p.invariant (inr (omega arith))

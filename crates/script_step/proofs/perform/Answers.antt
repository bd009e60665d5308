-- `script_step::perform` meets its contract: from the buffer that holds the book into the other.
-- No loop, so no invariant.
use Rattle.script_step.proofs.Calling.{back, forth}
use Rattle.script_step.proofs.perform.Goals as goal

pub returns-then-turned : goal.returns-then-turned
returns-then-turned c = back _ _ _ c.if-turned.true c.call.ensures

pub returns : goal.returns
returns c = forth _ _ _ c.if-turned.false c.call-2.ensures

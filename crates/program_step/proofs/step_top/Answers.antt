-- `program_step::step_top` meets its contract: by the buffer that holds the book.
-- No loop, so no invariant.
use Rattle.program_step.proofs.Stepping.{top_first, top_second}
use Rattle.program_step.proofs.step_top.Goals as goal

pub returns-then-turned : goal.returns-then-turned
returns-then-turned c = top_second c.args.prefix.now c.if-turned.true c.top_from.ensures

pub returns : goal.returns
returns c = top_first c.args.prefix.now c.if-turned.false c.top_from-2.ensures

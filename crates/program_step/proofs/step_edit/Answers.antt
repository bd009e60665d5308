-- `program_step::step_edit` meets its contract: the call on the bench, its answer's line, and the roles after it.
-- No loop, so no invariant.
use Rattle.program_step.proofs.Editing.{edit_done}
use Rattle.program_step.proofs.step_edit.Goals as goal

pub returns : goal.returns
returns c = edit_done c.perform-answer.ensures c.print_edit.ensures c.turned_after.ensures

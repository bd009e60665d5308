-- `edit_copy::plan_without` meets its contract: the numbers read and computed are the plan (proofs/Plans). No loop.
use native.Mathlib.Omega.{arith}
use Rattle.edit_copy.proofs.Plans.{end_read, gone_plan_room, gone_room, left_within, planned_without}
use Rattle.edit_copy.proofs.Results.{held-inside}
use Rattle.edit_copy.proofs.plan_without.Goals as goal

pub overflow_sub-name : goal.overflow_sub-name
overflow_sub-name c = omega (arith, left_within c.requires.sought)

pub behind_gone-behind-requires : goal.behind_gone-behind-requires
behind_gone-behind-requires c =
    let a = c.requires.sought in
    gone_room a c.requires _ (end_read a c.read_u32-end.ensures)

pub overflow_sub-n : goal.overflow_sub-n
overflow_sub-n c = omega (arith, held-inside c.requires.sought c.requires)

pub make_plan-requires : goal.make_plan-requires
make_plan-requires c = gone_plan_room c.requires.sought c.requires c.read_u32-end.ensures c.behind_gone-behind.ensures

pub returns : goal.returns
returns c =
    planned_without c.requires.sought c.requires c.read_u32-end.ensures c.behind_gone-behind.ensures c.make_plan.ensures

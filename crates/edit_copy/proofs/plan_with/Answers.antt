-- `edit_copy::plan_with` meets its contract: the numbers read and computed are the plan (proofs/Plans). No loop.
use native.Mathlib.Omega.{arith}
use Rattle.edit_copy.proofs.Plans.{left_within, new_plan_room, new_room, planned_with}
use Rattle.edit_copy.proofs.plan_with.Goals as goal

pub overflow_sub-own : goal.overflow_sub-own
overflow_sub-own c = omega (arith, left_within c.requires.sought)

pub behind_new-behind-requires : goal.behind_new-behind-requires
behind_new-behind-requires c = new_room c.requires.sought c.requires

pub overflow_add-n : goal.overflow_add-n
overflow_add-n c = omega (arith, c.requires.room)

pub make_plan-requires : goal.make_plan-requires
make_plan-requires c = new_plan_room c.requires.sought c.requires c.read_u32-end.ensures c.behind_new-behind.ensures

pub returns : goal.returns
returns c =
    planned_with c.requires.sought c.requires c.read_u32-end.ensures c.behind_new-behind.ensures c.make_plan.ensures

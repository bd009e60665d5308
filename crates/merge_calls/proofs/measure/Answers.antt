-- `merge_calls::measure` meets its contract: a pass that stores nothing has room in any buffer (proofs/Whole).
-- No loop.
use native.Mathlib.Omega.{arith}
use Rattle.merge_calls.proofs.Whole.{measure_room}
use Rattle.merge_calls.proofs.measure.Goals as goal

pub pass-requires : goal.pass-requires
pass-requires c = measure_room c.requires (omega arith)

pub returns : goal.returns
returns c = c.pass.ensures.told

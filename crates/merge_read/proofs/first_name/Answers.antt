-- `merge_read::first_name` meets its contract: the first record stands where the records begin (proofs/Loading).
-- No loop.
use native.Mathlib.Omega.{arith}
use Rattle.merge_read.proofs.Loading.{stands_first}
use Rattle.merge_read.proofs.first_name.Goals as goal

pub next_name-requires : goal.next_name-requires
next_name-requires c = (omega arith, c.requires, stands_first c.args.name.now c.records_start.ensures)

pub returns : goal.returns
returns c = c.next_name.ensures

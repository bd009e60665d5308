-- `book_append::pass_entry` meets its contract: the entry is put, or its record is only measured (proofs/Append).
-- No loop.
use native.Mathlib.Omega.{arith}
use Rattle.book_append.proofs.Append.{one_room, one_short, passed_measured, passed_put}
use Rattle.book_append.proofs.pass_entry.Goals as goal

pub put_entry-requires : goal.put_entry-requires
put_entry-requires c = one_room c.requires c.if-to.true

pub returns-then-to : goal.returns-then-to
returns-then-to c = passed_put c.requires c.if-to.true c.put_entry.ensures

pub record_size-requires : goal.record_size-requires
record_size-requires c = one_short c.requires

pub overflow_add-result : goal.overflow_add-result
overflow_add-result c = omega (arith, c.record_size.ensures.small, c.requires.near)

pub returns : goal.returns
returns c = passed_measured c.requires c.if-to.false c.record_size.ensures

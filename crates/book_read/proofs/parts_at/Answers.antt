-- `book_read::parts_at` meets its contract: the position tells the record's form, its first bytes the numbers.
-- No loop, so no invariant.
use native.Mathlib.Omega.{arith}
use Rattle.book_read.specs.Record.{parts_at}
use Rattle.book_read.proofs.parts_at.Goals as goal

pub overflow_cast-first : goal.overflow_cast-first
overflow_cast-first c = omega (arith, c.shared_slice_known-2-1.given 0)

pub returns-then-is_head : goal.returns-then-is_head
unfolding parts_at
returns-then-is_head c = rw (← c.is_head.ensures, c.if-is_head.true)

pub overflow_cast-own : goal.overflow_cast-own
overflow_cast-own c = omega (arith, c.shared_slice_known-3-1.given 1)

pub returns : goal.returns
unfolding parts_at
returns c = rw (← c.is_head.ensures, c.if-is_head.false)

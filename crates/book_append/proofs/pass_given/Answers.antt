-- `book_append::pass_given` meets its contract: the entry is put, or its record is only measured. No loop.
use mathlib.Core.Path.{refl}
use native.Mathlib.Omega.{arith}
use Rattle.book_append.proofs.pass_given.Goals as goal

pub returns-then-to : goal.returns-then-to
returns-then-to c = (
  rw c.if-to.true c.put_given.ensures.0,
  c.put_given.ensures.1,
)

pub overflow_add-result : goal.overflow_add-result
overflow_add-result c = omega (arith, c.requires.near, c.ranges)

pub returns : goal.returns
returns c = (rw c.if-to.false, refl)

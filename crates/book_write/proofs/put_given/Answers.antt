-- `book_write::put_given` meets its contract: what the two writers leave is the entry put (proofs/Stores).
-- No loop.
use mathlib.Core.Path.{refl}
use native.Mathlib.Omega.{arith}
use Rattle.book_write.proofs.Stores.{given_put_lem}
use Rattle.book_write.proofs.put_given.Goals as goal

pub overflow_add-result : goal.overflow_add-result
overflow_add-result c = omega (arith, c.requires.near, c.ranges)

pub returns : goal.returns
returns c = (
  given_put_lem c.args.slot c.args.dst.now c.args.score c.args.coded.now c.put_fields.ensures
      c.copy.ensures,
  refl,
)

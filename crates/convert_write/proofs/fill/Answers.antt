-- `convert_write::fill` meets its contract: all entries are put, and the book is finished. No loop.
use native.Mathlib.Omega.{arith}
use Rattle.book.proofs.Size.{book_length_lem}
use Rattle.book_laws.proofs.Held.{held_few, held_stored}
use Rattle.convert_write.proofs.Whole.{filled}
use Rattle.convert_write.proofs.fill.Goals as goal

pub pass-total-requires : goal.pass-total-requires
pass-total-requires c = record { held = c.requires.0; enough = λ t. c.requires.1 }

pub finish-requires : goal.finish-requires
finish-requires c = (
  held_few c.requires.0,
  omega (arith, c.pass-total.ensures.end, book_length_lem c.args.c.to _ (held_stored c.requires.0).ok),
)

pub returns : goal.returns
returns c =
    (filled c.args.c.to c.requires.0 c.pass-total.ensures c.finish.ensures, c.pass-total.ensures.end)

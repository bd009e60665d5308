-- `convert_write::fits` meets its contract: no book is longer than the longest, and else it is measured. No loop.
--
use mathlib.Core.Path.{ap, sym}
use lib.Dec.{leb}
use lib.ListN.{length}
use native.Mathlib.Omega.{arith}
use borrow.Author.Tests.{le-leb}
use Rattle.book.specs.Book.{image_in, in_book_in}
use Rattle.book.proofs.Size.{book_length_lem}
use Rattle.book_laws.proofs.Held.{held_stored}
use Rattle.convert_write.proofs.fits.Goals as goal

pub returns-then-room-ge-LONGEST_BOOK : goal.returns-then-room-ge-LONGEST_BOOK
returns-then-room-ge-LONGEST_BOOK c =
    let es = in_book_in c.args.c.from c.args.book.now in
    let most = book_length_lem c.args.c.to es (held_stored c.requires).ok in
    sym (le-leb (length (image_in c.args.c.to es)) c.args.room (omega (arith, c.if-room-ge-LONGEST_BOOK.true, most)))

pub image_size-requires : goal.image_size-requires
image_size-requires c = c.requires

pub returns : goal.returns
returns c = ap (λ n. leb n c.args.room) c.image_size.ensures

-- `edit_rescore::write_score` meets its contract: refused where the image, as long as the old one, is longer than the
-- destination, else written. No loop, so no invariant.
use mathlib.Core.Path.{◌∙◌, ◌≡◌, sym}
use lib.ListN.{length}
use Rattle.book.specs.Book.{book_image, today}
use Rattle.edit_rescore.specs.Rescored.{rescored}
use Rattle.edit_rescore.proofs.Rescored.{rescored_image, rescored-length}
use Rattle.book_write.proofs.Reports.{whole_refused, whole_written}
use Rattle.edit_rescore.proofs.write_score.Goals as goal
use Rattle.edit_rescore.proofs.write_score.Goals.{After-image_length-total}

-- how long the image is
long : (c : After-image_length-total) → c.image_length-total.result ≡ length (book_image c.args.book.now)
long c = rw c.image-image.ensures.entries at c.image_length-total.ensures

pub image_length-total-requires : goal.image_length-total-requires
image_length-total-requires c = c.image-image.ensures.held.is_it

pub returns-then-dst-total : goal.returns-then-dst-total
returns-then-dst-total c =
    let a = c.args in
    let l = long (goal.at.returns-then-dst-total c).After-image_length-total in
    whole_refused today (rescored a.book.now a.i a.score) _ (l ∙ sym (rescored_image a.book.now a.i a.score))
    c.if-dst-total.true

pub rescore-requires : goal.rescore-requires
rescore-requires c =
    let l = long (goal.at.rescore-requires c).After-image_length-total in
    (c.requires, l, c.if-dst-total.false)

pub returns : goal.returns
returns c =
    let a = c.args in
    let l = long (goal.at.returns c).After-image_length-total in
    whole_written today (rescored a.book.now a.i a.score) a.dst.now _
    (c.len-entries.ensures.count ∙ sym (rescored-length a.book.now a.i a.score))
    (l ∙ sym (rescored_image a.book.now a.i a.score))
    c.if-dst-total.false c.rescore.ensures

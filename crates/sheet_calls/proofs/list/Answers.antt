-- `sheet_calls::list` meets its contract: measured first, then written.
-- No loop, so no invariant.
use Rattle.std.proofs.Common.{arith}
use Rattle.std.proofs.lemmas.Result.{err_from_is_err_and}
use Rattle.book_check.proofs.FromBook.{from_no_room, from_refused, from_whole}
use Rattle.sheet.specs.Sheet.{list_book, sheet_image}
use Rattle.sheet_calls.proofs.list.Goals as goal

pub returns-in_err-c : goal.returns-in_err-c
unfolding list_book
returns-in_err-c c =
    let p = err_from_is_err_and c.from_residual.result c.from_residual.ensures.1 in
    rw (p.1, p.2) (from_refused sheet_image c.in_err-c.ensures _)

pub returns-then-dst-total : goal.returns-then-dst-total
unfolding list_book
returns-then-dst-total c =
    from_no_room sheet_image c.in_ok-c.ensures c.book-held.ensures _
    (omega (arith, c.sheet_size-total.ensures, c.if-dst-total.true))

pub returns : goal.returns
unfolding list_book
returns c =
    from_whole sheet_image c.in_ok-c.ensures c.book-held.ensures _ _ c.len-n.ensures.count
    c.sheet_size-total.ensures c.if-dst-total.false c.fill_sheet.ensures

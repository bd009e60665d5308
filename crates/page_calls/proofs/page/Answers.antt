-- `page_calls::page` meets its contract: a checked book laid out, or the refusal that applies.
-- No loop, so no invariant.
use Rattle.std.proofs.lemmas.Result.{err_from_is_err_and}
use Rattle.book_check.proofs.FromBook.{from_known, from_refused}
use Rattle.page.specs.Page.{page_image, write_page}
use Rattle.page_calls.proofs.page.Goals as goal

pub returns-in_err-c : goal.returns-in_err-c
unfolding write_page
returns-in_err-c c =
    let p = err_from_is_err_and c.from_residual.result c.from_residual.ensures.1 in
    rw (p.1, p.2) (from_refused page_image c.in_err-c.ensures _)

pub returns-then-len-le-SMALL_TABLE : goal.returns-then-len-le-SMALL_TABLE
unfolding write_page
returns-then-len-le-SMALL_TABLE c = from_known page_image c.in_ok-c.ensures c.book-held.ensures _ c.lay_out.ensures

pub returns-else-len-le-SMALL_TABLE : goal.returns-else-len-le-SMALL_TABLE
unfolding write_page
returns-else-len-le-SMALL_TABLE c =
    from_known page_image c.in_ok-c.ensures c.book-held.ensures _ c.lay_out-else-len-le-SMALL_TABLE.ensures

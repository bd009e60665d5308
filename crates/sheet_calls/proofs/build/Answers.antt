-- `sheet_calls::build` meets its contract: measured first, then written.
-- No loop, so no invariant.
use Rattle.std.proofs.Common.{arith, ◌≡◌}
use Rattle.std.proofs.lemmas.Result.{err_from_is_err_and}
use Rattle.answer.specs.declared.Refusal.TheVariants.{NotLaidOut}
use Rattle.answer_write.proofs.Converting.{no_room_lem, not_read, whole}
use Rattle.book.specs.Book.{book_image}
use Rattle.frame_code.proofs.Held.{image_damaged}
use Rattle.sheet.specs.Sheet.{build_book, read_sheet}
use Rattle.sheet_check.proofs.Held.{checked-held}
use Rattle.sheet_check.specs.Held.{HeldSheet}
use Rattle.sheet_calls.proofs.build.Goals as goal
use Rattle.sheet_calls.proofs.build.Goals.{In_ok-n}

held : (c : In_ok-n) → HeldSheet c.args.sheet.now c.in_ok-n.n
held c = checked-held _ c.check.ensures c.in_ok-n.ensures.ok_part

pub returns-in_err-n : goal.returns-in_err-n
unfolding build_book
returns-in_err-n c =
    let p = err_from_is_err_and c.from_residual.result c.from_residual.ensures.1 in
    let v = rw c.in_err-n.ensures.ok_part at c.in_err-n.ensures.value in
    let e : c.in_err-n.field-0.0 ≡ NotLaidOut = cc in
    rw (p.1, p.2, e)
    (not_read read_sheet book_image _ _
    (image_damaged (read_sheet _) c.check.ensures c.in_err-n.ensures.ok_part))

pub book_size-total-requires : goal.book_size-total-requires
book_size-total-requires c = held (goal.at.book_size-total-requires c).In_ok-n

pub returns-then-dst-total : goal.returns-then-dst-total
unfolding build_book
returns-then-dst-total c =
    let h = held (goal.at.returns-then-dst-total c).In_ok-n in
    no_room_lem read_sheet book_image _ _ h.is_it (omega (arith, c.book_size-total.ensures, c.if-dst-total.true))

pub returns : goal.returns
unfolding build_book
returns c =
    let h = held (goal.at.returns c).In_ok-n in
    whole read_sheet book_image _ _ h.is_it _ h.count c.book_size-total.ensures c.if-dst-total.false c.fill_book.ensures

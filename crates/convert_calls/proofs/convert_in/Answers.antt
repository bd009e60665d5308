-- `convert_calls::convert_in` meets its contract: checked in the one layout, measured and then written in the other.
-- No loop, so no invariant.
use Rattle.std.proofs.lemmas.Result.{err_from_is_err_and}
use Prim.Native.Nat.{◌≤◌}
use mathlib.Core.Path.{◌∙◌, ◌≡◌, sym}
use lib.ListN.{length}
use native.Mathlib.Omega.{arith}
use borrow.Author.Tests.{leb-false, leb-true}
use Rattle.book.specs.Book.{image_in, in_book_in, read_in}
use Rattle.book_laws.specs.Held.{HeldIn}
use Rattle.answer.specs.declared.Refusal.TheVariants.{NotLaidOut}
use Rattle.answer_write.proofs.Converting.{no_room_lem, not_read, whole}
use Rattle.convert_calls.proofs.convert_in.Goals as goal
use Rattle.convert_calls.proofs.convert_in.Goals.{In_ok-checked}

pub returns-in_err-checked : goal.returns-in_err-checked
returns-in_err-checked c =
    let p = err_from_is_err_and c.from_residual.result c.from_residual.ensures.1 in
    let v = rw c.in_err-checked.ensures.ok_part at c.in_err-checked.ensures.value in
    let e : c.in_err-checked.field-0.0 ≡ NotLaidOut = cc in
    rw (p.1, p.2, e)
    (not_read (read_in c.args.from) (image_in c.args.to) _ _
    (rw c.in_err-checked.ensures.ok_part at c.check_in.ensures))

-- the book that was checked
held : (c : In_ok-checked) → HeldIn c.args.from c.args.book.now c.in_ok-checked.checked.n
held c = (rw c.in_ok-checked.ensures.ok_part at c.check_in.ensures).0

pub fits-requires : goal.fits-requires
fits-requires c = held (goal.at.fits-requires c).In_ok-checked

pub returns-then-not-fits : goal.returns-then-not-fits
returns-then-not-fits c =
    let h = held (goal.at.returns-then-not-fits c).In_ok-checked in
    no_room_lem (read_in c.args.from) (image_in c.args.to) _ _ h.is_it
    (leb-false _ _ (sym c.fits.ensures ∙ c.if-not-fits.true))

pub fill-bytes-requires : goal.fill-bytes-requires
fill-bytes-requires c =
    (held (goal.at.fill-bytes-requires c).In_ok-checked, leb-true _ _ (sym c.fits.ensures ∙ c.if-not-fits.false))

pub shape_of-dst : goal.shape_of-dst
shape_of-dst c = c.fill-bytes.auto.dst

pub returns : goal.returns
returns c =
    let h = held (goal.at.returns c).In_ok-checked in
    let room : length (image_in c.args.to (in_book_in c.args.from c.args.book.now)) ≤ length c.args.dst.now =
    leb-true _ _ (sym c.fits.ensures ∙ c.if-not-fits.false)
    in
    whole (read_in c.args.from) (image_in c.args.to) _ _ h.is_it _ h.count c.fill-bytes.ensures.1
    (omega (arith, c.fill-bytes.ensures.1, room)) c.fill-bytes.ensures.0

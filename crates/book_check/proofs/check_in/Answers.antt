-- `book_check::check_in` meets its contract: each return gives the test that failed, or all of them, to the law of the
-- answer (proofs/Answer, and frame_code's proofs/Checked). No loop, so no invariant.
use mathlib.Core.Path.{◌∙◌, ap, refl, sym}
use native.Mathlib.Omega.{arith}
use Rattle.frame_laws.proofs.Test.{frame_tests}
use Rattle.frame_code.specs.Image.{ended_as}
use Rattle.frame_code.proofs.Checked.{Framed, frame_held}
use Rattle.book_check.proofs.Answer.{Front, ends_elsewhere, is_book_lem, located, no_end, no_frame_lem, no_room_lem, stale}
use Rattle.book_check.proofs.check_in.Goals as goal
use Rattle.book_check.proofs.check_in.Goals.{After-records_at-start, In_ok-frame}

-- the frame has passed
framed : (c : In_ok-frame) → let f = c.in_ok-frame.frame in Framed c.args.l.version c.args.buf.now f.entries f.total
framed c = frame_held _ _ c.check_frame.ensures c.in_ok-frame.was

-- and where the records begin is computed
front :
    (c : After-records_at-start) → let f = c.in_ok-frame.frame in
    Front c.args.l c.args.buf.now f.entries f.total c.records_at-start.result
front c =
    record {
      bytes = λ i. omega (arith, c.type_inv.buf i);
      frame = frame_held _ _ c.check_frame.ensures c.in_ok-frame.was;
      from = c.records_at-start.ensures;
    }

pub returns-in_err-frame : goal.returns-in_err-frame
returns-in_err-frame c =
    rw c.from_residual.ensures
    (no_frame_lem _ _ (λ i. omega (arith, c.type_inv.buf i)) c.check_frame.ensures c.in_err-frame.was)

pub records_at-start-requires : goal.records_at-start-requires
records_at-start-requires c = (framed c).few

pub returns-then-buf-start : goal.returns-then-buf-start
returns-then-buf-start c = no_room_lem (front (goal.at.returns-then-buf-start c).After-records_at-start)
    c.if-buf-start.true

pub walk-requires : goal.walk-requires
walk-requires c =
    let f = framed (goal.at.walk-requires c).In_ok-frame in
    (f.few, c.if-buf-start.false, omega (arith, f.whole, (frame_tests _ _ f.passed).fits))

pub returns-in_err-walked : goal.returns-in_err-walked
returns-in_err-walked c =
    rw c.from_residual-in_err-walked.ensures
    (no_end (front (goal.at.returns-in_err-walked c).After-records_at-start) refl (ap ended_as c.in_err-walked.ensures))

pub returns-then-end-total : goal.returns-then-end-total
returns-then-end-total c =
    ends_elsewhere (front (goal.at.returns-then-end-total c).After-records_at-start) refl
    (ap ended_as c.in_ok-walked.ensures.ends) c.if-end-total.true

pub peaks_are-requires : goal.peaks_are-requires
peaks_are-requires c = (framed (goal.at.peaks_are-requires c).In_ok-frame).few

pub returns-then-not-peaks_are : goal.returns-then-not-peaks_are
returns-then-not-peaks_are c =
    stale (front (goal.at.returns-then-not-peaks_are c).After-records_at-start)
    (sym c.peaks_are.ensures ∙ c.if-not-peaks_are.true)

pub returns : goal.returns
returns c =
    let walked = c.in_ok-walked.ensures in
    let held = is_book_lem (front (goal.at.returns c).After-records_at-start) refl (ap ended_as walked.ends)
    c.if-end-total.false c.if-buf-start.false (sym c.peaks_are.ensures ∙ c.if-not-peaks_are.false)
    in
    (held, located _ _ _ _ _ c.in_ok-walked.walked held c.records_at-start.ensures walked)

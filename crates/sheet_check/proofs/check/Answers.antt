-- `sheet_check::check` meets its contract: each return gives the test that failed, or all of them, to the law of the
-- answer (proofs/Answer, and frame_code's proofs/Checked). No loop, so no invariant.
use native.Mathlib.Omega.{arith}
use Rattle.octets.proofs.Numbers.{Bytes}
use Rattle.frame_code.proofs.Checked.{Framed, frame_held, no_end_lem, no_frame, other_end}
use Rattle.sheet_check.proofs.Answer.{is_sheet, must_end, rows_walk, sheet_format}
use Rattle.sheet_check.proofs.check.Goals as goal
use Rattle.sheet_check.proofs.check.Goals.{In_ok-entries}

-- the frame has passed
framed : (c : In_ok-entries) → Framed 0x11 c.args.buf.now c.in_ok-entries.field-0.entries c.in_ok-entries.field-0.total
framed c = frame_held _ _ c.check_frame.ensures c.in_ok-entries.was

bytes : (c : In_ok-entries) → Bytes c.args.buf.now
bytes c = λ i. omega (arith, c.type_inv.buf i)

pub returns-in_err-entries : goal.returns-in_err-entries
returns-in_err-entries c =
    rw c.from_residual.ensures
    (no_frame sheet_format _ (λ i. omega (arith, c.type_inv.buf i)) c.check_frame.ensures c.in_err-entries.was)

pub rows_end-requires : goal.rows_end-requires
rows_end-requires c =
    let f = framed (goal.at.rows_end-requires c).In_ok-entries in (f.few, f.long)

pub returns-in_err-end : goal.returns-in_err-end
returns-in_err-end c =
    let w = (goal.at.returns-in_err-end c).In_ok-entries in
    let f = framed w in
    rw c.from_residual-in_err-end.ensures
    (no_end_lem sheet_format _ (bytes w) f (rows_walk f) (must_end f) c.rows_end.ensures c.in_err-end.was)

pub returns-then-end-total : goal.returns-then-end-total
returns-then-end-total c =
    let w = (goal.at.returns-then-end-total c).In_ok-entries in
    let f = framed w in
    other_end sheet_format _ (bytes w) f (rows_walk f) (must_end f) c.rows_end.ensures c.in_ok-end.was
    c.if-end-total.true

pub returns : goal.returns
returns c =
    let w = (goal.at.returns c).In_ok-entries in
    is_sheet (framed w) (bytes w) c.rows_end.ensures c.in_ok-end.was c.if-end-total.false

-- `trie_check::check` meets its contract: each return gives the test that failed, or all of them, to the law of the
-- answer (proofs/Answer, and frame_code's proofs/Checked). No loop, so no invariant.
use native.Mathlib.Omega.{arith}
use Rattle.octets.proofs.Numbers.{Bytes}
use Rattle.frame_code.proofs.Checked.{Framed, frame_held, no_frame}
use Rattle.trie_check.proofs.Answer.{is_empty, is_trie_lem, no_walk, not_empty, other_end, some_missing, trie_format}
use Rattle.trie_check.proofs.check.Goals as goal
use Rattle.trie_check.proofs.check.Goals.{In_ok-entries}

all_bytes : (c : In_ok-entries) → Bytes c.args.buf.now
all_bytes c = λ i. omega (arith, c.type_inv.buf i)

-- the frame has passed
front : (c : In_ok-entries) → Framed 0x31 c.args.buf.now c.in_ok-entries.field-0.entries c.in_ok-entries.field-0.total
front c = frame_held _ _ c.check_frame.ensures c.in_ok-entries.was

pub returns-in_err-entries : goal.returns-in_err-entries
returns-in_err-entries c =
    rw c.from_residual.ensures
    (no_frame trie_format _ (λ i. omega (arith, c.type_inv.buf i)) c.check_frame.ensures c.in_err-entries.was)

pub returns-then-total-ne-FRAME_LENGTH : goal.returns-then-total-ne-FRAME_LENGTH
returns-then-total-ne-FRAME_LENGTH c =
    let w = (goal.at.returns-then-total-ne-FRAME_LENGTH c).In_ok-entries in
    not_empty (all_bytes w) (front w) c.if-entries-eq0.true c.if-total-ne-FRAME_LENGTH.true

pub returns-then-entries-eq0 : goal.returns-then-entries-eq0
returns-then-entries-eq0 c =
    let w = (goal.at.returns-then-entries-eq0 c).In_ok-entries in
    is_empty (all_bytes w) (front w) c.if-entries-eq0.true c.if-total-ne-FRAME_LENGTH.false

pub returns-in_err-end : goal.returns-in_err-end
returns-in_err-end c =
    let w = (goal.at.returns-in_err-end c).In_ok-entries in
    rw c.from_residual-in_err-end.ensures
    (no_walk (all_bytes w) (front w) c.if-entries-eq0.false c.group.ensures.is c.in_err-end.was)

pub returns-then-end-total : goal.returns-then-end-total
returns-then-end-total c =
    let w = (goal.at.returns-then-end-total c).In_ok-entries in
    other_end (all_bytes w) (front w) c.if-entries-eq0.false c.group.ensures.is c.in_ok-end.was c.if-end-total.true

pub returns-then-left-ne0 : goal.returns-then-left-ne0
returns-then-left-ne0 c =
    let w = (goal.at.returns-then-left-ne0 c).In_ok-entries in
    some_missing (all_bytes w) (front w) c.if-entries-eq0.false c.group.ensures.is c.in_ok-end.was c.if-left-ne0.true

pub returns : goal.returns
returns c =
    let w = (goal.at.returns c).In_ok-entries in
    is_trie_lem (all_bytes w) (front w) c.if-entries-eq0.false c.group.ensures.is c.in_ok-end.was c.if-end-total.false
    c.if-left-ne0.false

-- `head_length` meets its contract: the checks in the table's order, then the head's length.
-- No loop, so no invariant.
use Rattle.std.proofs.lemmas.Result.{err_from_is_err_and}
use mathlib.Core.Path.{◌∙◌, ap}
use lib.ListN.{length}
use native.Mathlib.Omega.{arith}
use Rattle.answer.specs.Answers.{given}
use Rattle.lookup_head_calls.proofs.Companion.{length_none, length-refused, length_some}
use Rattle.lookup_head_calls.proofs.head_length.Goals as goal

pub returns-in_err-c : goal.returns-in_err-c
returns-in_err-c c =
    let p = err_from_is_err_and c.from_residual.result c.from_residual.ensures.1 in
    rw (p.1, p.2) (length-refused _ _ c.in_err-c.ensures)

pub returns-then-not-has_head : goal.returns-then-not-has_head
returns-then-not-has_head c =
    let k = c.in_ok-c.ensures in
    let e = c.book-held.ensures ∙ k.entries in
    length_none _ _ k.is_it e c.len.ensures.count c.has_head.ensures.0 c.if-not-has_head.true

pub first_name-requires : goal.first_name-requires
first_name-requires c = omega (arith, c.len.ensures.count, c.has_head.ensures.1 c.if-not-has_head.false)

pub returns : goal.returns
returns c =
    let k = c.in_ok-c.ensures in
    let e = c.book-held.ensures ∙ k.entries in
    ap (λ l. given (length l)) c.first_name.ensures
    ∙ length_some _ _ k.is_it e c.len.ensures.count c.has_head.ensures.0 c.if-not-has_head.false

-- `completion_calls::complete` meets its contract: a refusal, which leaves the lent ranges, or the machine run over
-- them and its answer.
use mathlib.Core.Path.{refl}
use Rattle.std.proofs.lemmas.Result.{err_from_is_err_and}
use Rattle.completion_book.proofs.Answering.{completed_over, declines_over, sought, writable}
use Rattle.completion_calls.proofs.complete.Goals as goal

pub returns-in_err-c : goal.returns-in_err-c
returns-in_err-c c =
    let p = err_from_is_err_and c.from_residual.result c.from_residual.ensures.1 in
    rw (p.1, p.2) (declines_over c.args.book.now c.args.prefix.now c.args.k c.args.dst.now c.args.ranges.now
    c.in_err-c.ensures)

pub offers_over-s-requires : goal.offers_over-s-requires
offers_over-s-requires c = (sought c.in_ok-c.ensures c.book-held.ensures, c.in_ok-c.ensures.waits)

pub write_answer-requires : goal.write_answer-requires
write_answer-requires c = writable c.in_ok-c.ensures c.book-held.ensures c.offers_over-s.ensures refl

pub returns : goal.returns
returns c = completed_over c.in_ok-c.ensures c.book-held.ensures c.offers_over-s.ensures _ refl
    c.write_answer.ensures c.offers_over-s.auto.ranges

-- `completion_book::complete_in` meets its contract: a refusal, or the machine run and its answer.
use mathlib.Core.Path.{refl}
use Rattle.std.proofs.lemmas.Result.{err_from_is_err_and}
use Rattle.completion_book.proofs.Answering.{completed, declines, sought, writable}
use Rattle.completion_book.proofs.complete_in.Goals as goal

pub returns-in_err-c : goal.returns-in_err-c
returns-in_err-c c =
    let p = err_from_is_err_and c.from_residual.result c.from_residual.ensures.1 in
    rw (p.1, p.2) (declines c.args.book.now c.args.prefix.now c.args.k c.args.dst.now c.args.k c.in_err-c.ensures)

pub offers-s-requires : goal.offers-s-requires
offers-s-requires c = (sought c.in_ok-c.ensures c.book-held.ensures, c.in_ok-c.ensures.waits.few)

pub write_answer-requires : goal.write_answer-requires
write_answer-requires c = writable c.in_ok-c.ensures c.book-held.ensures c.offers-s.ensures refl

pub returns : goal.returns
returns c = completed c.in_ok-c.ensures c.book-held.ensures c.offers-s.ensures _ refl c.write_answer.ensures

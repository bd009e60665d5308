-- `completion_book::check_asked` meets its contract: the refusals in the table's order, or what is known of the book.
use Rattle.std.proofs.lemmas.Result.{err_from_is_err_and}
use Rattle.completion_book.proofs.Asking.{for_many, for_none, for_the_book, no_room, no_slots, none_refused}
use Rattle.completion_book.proofs.Asking.{not_allowed}
use Rattle.completion_book.proofs.check_asked.Goals as goal

pub returns-in_err-c : goal.returns-in_err-c
returns-in_err-c c =
    let p = err_from_is_err_and c.from_residual.result c.from_residual.ensures.1 in
    rw (p.1, p.2) (for_the_book c.args.prefix.now c.args.k c.args.room c.args.lent c.in_err-c.ensures)

pub returns-then-not-is_prefix : goal.returns-then-not-is_prefix
returns-then-not-is_prefix c =
    not_allowed c.args.k c.args.room c.args.lent c.in_ok-c.ensures c.is_prefix.ensures c.if-not-is_prefix.true

pub returns-then-k-eq0 : goal.returns-then-k-eq0
returns-then-k-eq0 c =
    for_none c.args.k c.args.room c.args.lent c.in_ok-c.ensures c.is_prefix.ensures c.if-not-is_prefix.false
    c.if-k-eq0.true

pub returns-then-k-gt-MAX_COUNT : goal.returns-then-k-gt-MAX_COUNT
returns-then-k-gt-MAX_COUNT c =
    for_many c.args.k c.args.room c.args.lent c.in_ok-c.ensures c.is_prefix.ensures c.if-not-is_prefix.false
    c.if-k-eq0.false c.if-k-gt-MAX_COUNT.true

pub returns-then-room-k : goal.returns-then-room-k
returns-then-room-k c =
    no_room c.args.k c.args.room c.args.lent c.in_ok-c.ensures c.is_prefix.ensures c.if-not-is_prefix.false
    c.if-k-eq0.false c.if-k-gt-MAX_COUNT.false c.if-room-k.true

pub returns-then-lent-k : goal.returns-then-lent-k
returns-then-lent-k c =
    no_slots c.args.k c.args.room c.args.lent c.in_ok-c.ensures c.is_prefix.ensures c.if-not-is_prefix.false
    c.if-k-eq0.false c.if-k-gt-MAX_COUNT.false c.if-room-k.false c.if-lent-k.true

pub returns : goal.returns
returns c =
    none_refused c.args.k c.args.room c.args.lent c.in_ok-c.ensures c.is_prefix.ensures c.if-not-is_prefix.false
    c.if-k-eq0.false c.if-k-gt-MAX_COUNT.false c.if-room-k.false c.if-lent-k.false

-- `book_seek::order_of` meets its contract: the lists have ended, or their next bytes decide (proofs/Sharing).
-- No loop, so no invariant.
use Rattle.book_seek.proofs.Sharing.{Decided, decided}
use Rattle.book_seek.proofs.order_of.Goals as goal
use Rattle.book_seek.proofs.order_of.Goals.{Start}

decides : (c : Start) → Decided c.args.rest.now c.args.tail.now c.args.more
decides c = rw c.requires (decided c.args.rest.now c.args.tail.now)

pub returns-then-tail-more : goal.returns-then-tail-more
returns-then-tail-more c = (decides (goal.at.returns-then-tail-more c).Start).begun c.if-tail-more.true

pub returns-then-rest-more : goal.returns-then-rest-more
returns-then-rest-more c =
    (decides (goal.at.returns-then-rest-more c).Start).ended c.if-tail-more.false c.if-rest-more.true

pub returns-then-rest-more-2 : goal.returns-then-rest-more-2
returns-then-rest-more-2 c =
    (decides (goal.at.returns-then-rest-more-2 c).Start).under c.if-rest-more.false c.if-tail-more.false
    c.if-rest-more-2.true

pub returns-else-rest-more-2 : goal.returns-else-rest-more-2
returns-else-rest-more-2 c =
    (decides (goal.at.returns-else-rest-more-2 c).Start).over c.if-rest-more.false c.if-tail-more.false
    c.if-rest-more-2.false

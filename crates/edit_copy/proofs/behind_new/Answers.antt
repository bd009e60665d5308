-- `edit_copy::behind_new` meets its contract: nothing, or the header that was read, changed. No loop.
use Rattle.edit_copy.proofs.Puts.{new_none, new_some}
use Rattle.edit_copy.proofs.behind_new.Goals as goal

pub returns-then-n-s : goal.returns-then-n-s
returns-then-n-s c =
    new_none c.args.book.now c.args.end c.args.n c.args.s c.if-n-s.true c.nothing.ensures

pub returns : goal.returns
returns c = new_some c.args.book.now c.args.end c.args.n c.args.s c.if-n-s.false

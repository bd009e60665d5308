-- `label_book_withdraw` meets its contract: what the front door's call answered is told. No loop.
use Rattle.label_book_c.proofs.Told.{left}
use Rattle.label_book_c.proofs.label_book_withdraw.Goals as goal

pub returns : goal.returns
returns c = left c.withdraw.ensures c.tell_written.ensures

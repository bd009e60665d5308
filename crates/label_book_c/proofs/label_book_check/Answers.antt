-- `label_book_check` meets its contract: what the front door's call answered is told. No loop.
use Rattle.label_book_c.proofs.label_book_check.Goals as goal

pub returns : goal.returns
returns c = rw (← c.check.ensures) c.tell_written.ensures

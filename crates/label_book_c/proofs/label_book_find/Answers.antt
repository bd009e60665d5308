-- `label_book_find` meets its contract: what the front door's call answered is told. No loop.
use Rattle.label_book_c.proofs.label_book_find.Goals as goal

pub returns : goal.returns
returns c = rw (← c.find.ensures) c.tell_found.ensures

-- `label_book_name_at` meets its contract: what the front door's call answered is told. No loop.
use Rattle.label_book_c.proofs.Told.{left}
use Rattle.label_book_c.proofs.label_book_name_at.Goals as goal

pub returns : goal.returns
returns c = left c.name_at.ensures c.tell_written.ensures

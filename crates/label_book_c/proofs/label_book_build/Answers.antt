-- `label_book_build` meets its contract: what the front door's call answered is told. No loop.
use Rattle.label_book_c.proofs.Told.{left}
use Rattle.label_book_c.proofs.label_book_build.Goals as goal

pub returns : goal.returns
returns c = left c.build.ensures c.tell_written.ensures

-- `label_book_run` meets its contract: what the front door's call answered is told. No loop.
use Rattle.label_book_c.proofs.Told.{run_left}
use Rattle.label_book_c.proofs.label_book_run.Goals as goal

pub returns : goal.returns
returns c = run_left c.run.result c.run.ensures c.tell_played.ensures

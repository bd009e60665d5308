-- `label_book_press` meets its contract: what the front door's call answered is told. No loop.
use Rattle.label_book_c.proofs.Told.{rows_left}
use Rattle.label_book_c.proofs.label_book_press.Goals as goal

pub returns : goal.returns
returns c = rows_left c.press-answer.ensures c.tell_rows.ensures

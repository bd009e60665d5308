-- `label_book_complete` meets its contract: what the front door's call answered is told. No loop.
use Rattle.label_book_c.proofs.Told.{offered_over}
use Rattle.label_book_c.proofs.label_book_complete.Goals as goal

pub returns : goal.returns
returns c = offered_over c.complete-answer.ensures c.tell_offered.ensures

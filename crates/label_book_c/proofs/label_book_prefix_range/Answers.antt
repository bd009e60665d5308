-- `label_book_prefix_range` meets its contract: what the front door's call answered is told. No loop.
use Rattle.label_book_c.proofs.label_book_prefix_range.Goals as goal

pub returns : goal.returns
returns c = rw (← c.prefix_range.ensures) c.tell_span.ensures

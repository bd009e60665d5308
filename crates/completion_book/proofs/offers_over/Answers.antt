-- `completion_book::offers_over` meets its contract: the matches are the first open range, then the machine runs.
use Rattle.completion_book.proofs.Answering.{sought_most, start_offers, start_runs}
use Rattle.completion_book.proofs.offers_over.Goals as goal

pub put-filled-requires : goal.put-filled-requires
put-filled-requires c = (sought_most c.args.book.now c.requires.0.located, c.requires.1.some)

pub run-requires : goal.run-requires
run-requires c = start_runs c.len-entries.ensures.ok c.requires.1 c.put-filled.ensures c.requires.0

pub returns : goal.returns
returns c = start_offers c.len-entries.ensures.ok c.requires.1 c.put-filled.ensures c.run.ensures

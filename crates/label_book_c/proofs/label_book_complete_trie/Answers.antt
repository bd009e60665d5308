-- `label_book_complete_trie` meets its contract: what the front door's call answered is told. No loop.
use Rattle.label_book_c.proofs.Told.{offered_left}
use Rattle.label_book_c.proofs.label_book_complete_trie.Goals as goal

pub returns : goal.returns
returns c =
    offered_left c.complete_trie.ensures
    c.tell_offered.ensures

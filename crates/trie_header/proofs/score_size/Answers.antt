-- `trie_header::score_size` meets its contract: a shift by 6 divides by 64.
-- No loop, so no invariant.
use Rattle.trie.specs.Reading.{score_size}
use Rattle.trie_header.proofs.score_size.Goals as goal

pub returns : goal.returns
unfolding score_size
returns c = c.size_at.ensures

-- `trie_find_steps::is_leaf` meets its contract: the child size in the header is 0.
-- No loop, so no invariant.
use mathlib.Core.Path.{ap}
use lib.Dec.{eqb}
use Rattle.trie_find_steps.proofs.is_leaf.Goals as goal

pub returns : goal.returns
returns c = ap (λ n. eqb n 0) c.child_size.ensures

-- `trie_write_runs::child_part` meets its contract: by the test whether the node is a leaf.
-- No loop, so no invariant.
use borrow.Author.Tests.{eq-eqb, ne_eqb}
use Rattle.trie_write_runs.proofs.child_part.Goals as goal

pub returns-then-r-eq0 : goal.returns-then-r-eq0
returns-then-r-eq0 c = simp (eq-eqb _ _ c.if-r-eq0.true)

pub returns : goal.returns
returns c = simp (ne_eqb _ _ c.if-r-eq0.false)

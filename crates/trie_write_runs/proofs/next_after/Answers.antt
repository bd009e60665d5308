-- `trie_write_runs::next_after` meets its contract: a leaf leaves the child field as it was, another node counts what
-- stands under it. No loop, so no invariant.
use borrow.Author.Tests.{eq-eqb}
use Rattle.trie_write_runs.specs.Fields.{after}
use Rattle.trie_write_runs.proofs.Fields.{after_inner_lem}
use Rattle.trie_write_runs.proofs.next_after.Goals as goal

pub returns-then-under-eq0 : goal.returns-then-under-eq0
unfolding after
returns-then-under-eq0 c = simp (eq-eqb _ _ c.if-under-eq0.true)

pub returns : goal.returns
returns c = after_inner_lem c.args.r c.args.f c.args.score _ c.if-under-eq0.false c.size_of.ensures

-- `trie_check_rules::is_lonely` meets its contract: the tests are those of `lonely`.
-- No loop, so no invariant.
use borrow.Author.Tests.{not-false, not-true}
use Rattle.trie_check_rules.proofs.is_lonely.Goals as goal

pub returns-then-not-n : goal.returns-then-not-n
returns-then-not-n c = let a = c.args in simp (not-true a.n.last c.if-not-n.true)

pub returns-then-not-p : goal.returns-then-not-p
returns-then-not-p c =
    let a = c.args in
    simp (not-false a.n.last c.if-not-n.false, not-true a.p.full c.if-not-p.true)

pub returns : goal.returns
returns c =
    let a = c.args in
    simp (not-false a.n.last c.if-not-n.false, not-false a.p.full c.if-not-p.false)

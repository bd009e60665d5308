-- `trie_check_rules::child_stands` meets its contract: each answer is a law of the child field (proofs/Rules).
-- No loop, so no invariant.
use borrow.Author.Tests.{not-false, not-true}
use Rattle.trie_check_rules.proofs.Rules.{child_away, child_leaf, child_next, child_own}
use Rattle.trie_check_rules.proofs.child_stands.Goals as goal

pub returns-then-n-eq0 : goal.returns-then-n-eq0
returns-then-n-eq0 c =
    let a = c.args in
    child_leaf a.p a.n c.if-n-eq0.true

pub returns-then-n-p : goal.returns-then-n-p
returns-then-n-p c =
    let a = c.args in
    child_away a.p a.n c.if-n-eq0.false c.if-n-p.true

pub returns-then-not-p : goal.returns-then-not-p
returns-then-not-p c =
    let a = c.args in
    child_next a.p a.n c.if-n-eq0.false c.size_of.result c.if-n-p.false
    (not-true a.p.own c.if-not-p.true) c.size_of.ensures

pub returns : goal.returns
returns c =
    let a = c.args in
    child_own a.p a.n c.if-n-eq0.false c.own_size.result c.saturating_sub.result c.if-n-p.false
    (not-false a.p.own c.if-not-p.false) c.saturating_sub.ensures c.own_size.ensures

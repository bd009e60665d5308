-- `trie_check_rules::new_score` meets its contract: the tests are those of `score_of`.
-- No loop, so no invariant.
use borrow.Author.Tests.{eq-eqb, ne_eqb, not-false, not-true}
use Rattle.trie_check_rules.proofs.new_score.Goals as goal

pub overflow_sub-result : goal.overflow_sub-result
overflow_sub-result c = c.requires (not-true c.args.p.first c.if-not-p.true)

pub returns-then-not-p : goal.returns-then-not-p
returns-then-not-p c =
    let a = c.args in
    simp (not-true a.p.first c.if-not-p.true)

pub returns-then-p-eq0 : goal.returns-then-p-eq0
returns-then-p-eq0 c =
    let a = c.args in
    simp (not-false a.p.first c.if-not-p.false, eq-eqb _ _ c.if-p-eq0.true)

pub returns : goal.returns
returns c =
    let a = c.args in
    simp (not-false a.p.first c.if-not-p.false, ne_eqb _ _ c.if-p-eq0.false)

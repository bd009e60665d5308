-- `trie_check_rules::fits_here` meets its contract: the three tests in the order of `stands`.
-- No loop, so no invariant.
use Rattle.trie_check_rules.proofs.Rules.{all_three, no_label, no_score}
use Rattle.trie_check_rules.proofs.fits_here.Goals as goal

pub returns-then-not-score_stands : goal.returns-then-not-score_stands
returns-then-not-score_stands c =
    let a = c.args in
    no_score a.p a.n c.score_stands.result c.score_stands.ensures (c.if-not-score_stands.true)

pub returns-then-not-label_stands : goal.returns-then-not-label_stands
returns-then-not-label_stands c =
    let a = c.args in
    no_label a.p a.n c.score_stands.result c.score_stands.ensures (c.if-not-score_stands.false) c.label_stands.result
    c.label_stands.ensures (c.if-not-label_stands.true)

pub returns : goal.returns
returns c =
    let a = c.args in
    all_three a.p a.n c.score_stands.result c.score_stands.ensures (c.if-not-score_stands.false) c.label_stands.result
    c.label_stands.ensures (c.if-not-label_stands.false)
    c.child_stands.result c.child_stands.ensures

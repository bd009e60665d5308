-- `trie_check_rules::label_stands` meets its contract: each answer is a law of the label (proofs/Rules).
-- No loop, so no invariant.
use Rattle.trie_check_rules.proofs.Rules.{label_deep, label_long, label_none, label_root, label_some}
use Rattle.trie_check_rules.proofs.label_stands.Goals as goal

pub returns-then-p-gt-LONGEST_NAME : goal.returns-then-p-gt-LONGEST_NAME
returns-then-p-gt-LONGEST_NAME c =
    let a = c.args in
    label_deep a.p a.n c.if-p-gt-LONGEST_NAME.true

pub returns-then-p-n : goal.returns-then-p-n
returns-then-p-n c =
    let a = c.args in
    label_long a.p a.n c.if-p-gt-LONGEST_NAME.false c.if-p-n.true

pub returns-then-n-ne0 : goal.returns-then-n-ne0
returns-then-n-ne0 c =
    let a = c.args in
    label_some a.p a.n c.if-p-gt-LONGEST_NAME.false c.if-p-n.false c.if-n-ne0.true

pub returns-then-p-eq0 : goal.returns-then-p-eq0
returns-then-p-eq0 c =
    let a = c.args in
    label_root a.p a.n c.if-p-gt-LONGEST_NAME.false c.if-p-n.false c.if-n-ne0.false c.if-p-eq0.true

pub returns : goal.returns
returns c =
    let a = c.args in
    label_none a.p a.n c.if-p-gt-LONGEST_NAME.false c.if-p-n.false c.if-n-ne0.false c.if-p-eq0.false

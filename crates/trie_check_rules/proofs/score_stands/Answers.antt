-- `trie_check_rules::score_stands` meets its contract: the tests are those of `score_stands`, in the same order.
-- No loop, so no invariant.
use mathlib.Core.Path.{◌∙◌}
use borrow.Author.Tests.{eq-eqb, le-leb, lt-leb, ne_eqb}
use Rattle.trie_check_rules.proofs.Rules.{score_zero}
use Rattle.trie_check_rules.proofs.score_stands.Goals as goal

pub returns-then-p-eq0 : goal.returns-then-p-eq0
returns-then-p-eq0 c = c.is_lonely.ensures ∙ simp (c.if-p.true, eq-eqb _ _ c.if-p-eq0.true)

pub returns-then-n-eq0 : goal.returns-then-n-eq0
returns-then-n-eq0 c =
    let a = c.args in
    c.is_lonely-then-n-eq0.ensures ∙ score_zero a.p a.n c.if-p.true c.if-p-eq0.false c.if-n-eq0.true

pub returns-then-p : goal.returns-then-p
returns-then-p c =
    simp (
      c.if-p.true,
      ne_eqb _ _ c.if-p-eq0.false,
      ne_eqb _ _ c.if-n-eq0.false,
    )

pub returns-then-p-n : goal.returns-then-p-n
returns-then-p-n c = simp (c.if-p.false, lt-leb _ _ c.if-p-n.true)

pub returns-then-n-ne0 : goal.returns-then-n-ne0
returns-then-n-ne0 c =
    simp (
      c.if-p.false,
      le-leb _ _ c.if-p-n.false,
      ne_eqb _ _ c.if-n-ne0.true,
    )

pub returns : goal.returns
returns c = simp (c.if-p.false, le-leb _ _ c.if-p-n.false, eq-eqb _ _ c.if-n-ne0.false)

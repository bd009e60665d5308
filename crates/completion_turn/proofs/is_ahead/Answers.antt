-- `completion_turn::is_ahead` meets its contract: the two tests of `is_ahead`.
-- No loop, so no invariant.
use borrow.Author.Tests.{eq-eqb, ne_eqb}
use Rattle.completion_turn.proofs.is_ahead.Goals as goal

pub returns-then-x-y : goal.returns-then-x-y
returns-then-x-y c = rw (eq-eqb _ _ c.if-x-y.true)

pub returns : goal.returns
returns c = rw (ne_eqb _ _ c.if-x-y.false)

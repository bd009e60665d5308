-- `completion_turn::better_range` meets its contract: the test of `better_range`.
-- No loop, so no invariant.
use mathlib.Core.Path.{◌∙◌, sym}
use Rattle.completion_turn.proofs.better_range.Goals as goal

pub returns-then-is_ahead : goal.returns-then-is_ahead
returns-then-is_ahead c = rw (sym c.is_ahead.ensures ∙ c.if-is_ahead.true)

pub returns : goal.returns
returns c = rw (sym c.is_ahead.ensures ∙ c.if-is_ahead.false)

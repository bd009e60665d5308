-- `completion_turn::open_range` meets its contract: the best of the positions, and its score as the book holds it.
-- No loop, so no invariant.
use native.Mathlib.Omega.{arith}
use Rattle.completion_turn.proofs.Ranges.{open_some}
use Rattle.completion_turn.proofs.open_range.Goals as goal

pub score-requires : goal.score-requires
score-requires c = omega (arith, c.best_in-best.ensures.high)

pub returns : goal.returns
returns c = rw c.score.ensures (open_some _ _ _ c.requires.0 c.best_in-best.ensures)

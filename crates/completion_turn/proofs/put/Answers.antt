-- `completion_turn::put` meets its contract: nothing is put where there are no positions.
use Rattle.completion_turn.proofs.Ranges.{put_none, put_some}
use Rattle.completion_turn.proofs.put.Goals as goal

pub returns-then-end-first : goal.returns-then-end-first
returns-then-end-first c = put_none _ _ _ _ _ c.if-end-first.true

pub returns : goal.returns
returns c = put_some _ _ _ _ _ c.open_range.ensures c.requires.1

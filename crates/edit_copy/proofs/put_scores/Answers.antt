-- `edit_copy::put_scores` meets its contract: three stores, one behind the other (proofs/Puts). No loop.
use Rattle.edit_copy.proofs.Puts.{scores_put}
use Rattle.edit_copy.proofs.put_scores.Goals as goal

pub returns : goal.returns
returns c =
    scores_put _ _ _ c.requires c.score_start-cut.ensures c.score_start.ensures c.score_start-2.ensures c.copy.ensures
    c.copy-2.ensures c.copy-3.ensures

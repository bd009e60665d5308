use native.Mathlib.Omega.{arith}
use Rattle.book_layout.proofs.Best.{best_kept, best_start, best_taken}
use Rattle.book_layout.proofs.best_between.Goals as goal
use Rattle.book_layout.proofs.best_between.Goals.{then-best-score, else-best-score}

pub loop-i-init : goal.loop-i-init
loop-i-init c = best_start _ _ _ (omega arith) c.score_at-best.ensures

pub loop-i-preserved : goal.loop-i-preserved
loop-i-preserved c =
    let g = c.loop-i.invariant in
    elim c.if-best-score.branch [
      | then-best-score w ↦ rw (w.b-is, w.best-is) (best_taken g c.loop-i-test.true c.score_at-score.ensures w.if-best-score.true)
      | else-best-score w ↦ rw (w.b-is, w.best-is) (best_kept g c.loop-i-test.true c.score_at-score.ensures w.if-best-score.false)
    ]

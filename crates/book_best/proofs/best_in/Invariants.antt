-- The loop's invariant: nothing from `first` to before `i` outranks `b` (specs/Best). The measure is the number of
-- positions left.
use Prim.Native.Nat.{◌-◌}
use Rattle.book_best.specs.Best.{Tops}
use Rattle.book_best.proofs.best_in.Given as goal

abbrev pub invariant-loop-i : goal.invariant-loop-i
invariant-loop-i l = Tops l.book l.first l.end l.b l.i

abbrev pub decreases-loop-i : goal.decreases-loop-i
decreases-loop-i l = l.end - l.i

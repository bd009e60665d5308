-- `book_layout::best_between` meets its contract. The loop's invariant: `b` is the best so far, `best` its score, and
-- what is left decides as the whole did.
use Rattle.book_layout.proofs.Best.{Best}
use Rattle.book_layout.proofs.best_between.Given as goal

abbrev pub invariant-loop-i : goal.invariant-loop-i
invariant-loop-i l = Best l.buf l.first l.end l.b l.best l.i

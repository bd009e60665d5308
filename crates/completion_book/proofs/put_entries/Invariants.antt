-- `completion_book::put_entries` meets its contract. The loop's invariant: what is still to be written, behind what was
-- (Putting).
use Rattle.completion_book.proofs.Putting.{PutLeft}
use Rattle.completion_book.proofs.put_entries.Given as goal

abbrev pub invariant-loop-i : goal.invariant-loop-i
invariant-loop-i l = PutLeft l.book l.initial.dst l.offered l.dst l.end l.i

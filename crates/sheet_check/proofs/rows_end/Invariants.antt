-- `sheet_check::rows_end` meets its contract. The loop's invariant: the entries from the index reached on end where all
-- of them do.
use Rattle.sheet_check.proofs.RowLoop.{RowsPassed}
use Rattle.sheet_check.proofs.rows_end.Given as goal

abbrev pub invariant-loop : goal.invariant-loop
invariant-loop l = RowsPassed l.buf l.n l.at l.prev l.counter

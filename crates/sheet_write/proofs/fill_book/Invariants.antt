-- `sheet_write::fill_book` meets its contract. The loop's invariant: a book half written, the next entry of the sheet
-- at the index reached.
use Rattle.sheet_write.proofs.Building.{Filling}
use Rattle.sheet_write.proofs.fill_book.Given as goal

abbrev pub invariant-loop-i : goal.invariant-loop-i
invariant-loop-i l =
    Filling l.sheet l.initial.dst l.at l.from l.prev l.i l.dst

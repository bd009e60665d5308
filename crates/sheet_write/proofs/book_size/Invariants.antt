-- `sheet_write::book_size` meets its contract. The loop's invariant: what is counted, with the records left, is the
-- whole book.
use Rattle.sheet_write.proofs.Building.{Sizing}
use Rattle.sheet_write.proofs.book_size.Given as goal

abbrev pub invariant-loop-i : goal.invariant-loop-i
invariant-loop-i l = Sizing l.sheet l.total l.at l.prev l.i

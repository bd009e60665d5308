-- `sheet_write::sheet_size` meets its contract. The loop's invariant: what is counted, with the entries left, is the
-- whole sheet.
use Rattle.sheet_write.proofs.Listing.{Measuring}
use Rattle.sheet_write.proofs.sheet_size.Given as goal

abbrev pub invariant-loop-i : goal.invariant-loop-i
invariant-loop-i l = Measuring l.image l.book l.total l.at l.i

-- `sheet_write::fill_sheet` meets its contract. The loop's invariant: what is written, with the entries left written
-- now, is the whole sheet.
use Rattle.sheet_write.proofs.Listing.{Writing}
use Rattle.sheet_write.proofs.fill_sheet.Given as goal

abbrev pub invariant-loop-i : goal.invariant-loop-i
invariant-loop-i l = Writing l.image l.book l.initial.dst l.name l.from l.at l.i l.dst

-- `book_write::put_peaks` meets its contract. The loop's invariant: to put the peaks that are left gives the whole
-- result (proofs/Peaks).
use Rattle.book_write.proofs.Peaks.{PeaksLeft}
use Rattle.book_write.proofs.put_peaks.Given as goal

abbrev pub invariant-loop-j : goal.invariant-loop-j
invariant-loop-j l = PeaksLeft l.l l.initial.dst l.n l.dst l.j

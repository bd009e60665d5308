-- `book_check_peaks::peaks_are` meets its contract. The loop's invariant: the blocks left decide as all of them did.
use Rattle.book_check_peaks.proofs.Blocks.{Peaks}
use Rattle.book_check_peaks.proofs.peaks_are.Given as goal

abbrev pub invariant-loop-j : goal.invariant-loop-j
invariant-loop-j l = Peaks l.l l.buf l.n l.j

use native.Mathlib.Omega.{arith}
use Rattle.book_check_peaks.proofs.Blocks.{peaks-turn}
use Rattle.book_check_peaks.proofs.peaks_are.Goals as goal

pub loop-j-preserved : goal.loop-j-preserved
loop-j-preserved c =
    peaks-turn c.loop-j.invariant (omega arith) c.peak_right.ensures (c.if-not-peak_right.false)

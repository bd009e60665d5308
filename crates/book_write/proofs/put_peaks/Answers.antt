use native.Mathlib.Omega.{arith}
use Rattle.book_write.proofs.Peaks.{peaks_end, peaks_start_lem, peaks-turn}
use Rattle.book_write.proofs.put_peaks.Goals as goal

pub loop-j-init : goal.loop-j-init
loop-j-init c = let a = c.args in peaks_start_lem a.l a.dst.now a.n

pub loop-j-preserved : goal.loop-j-preserved
loop-j-preserved c = peaks-turn c.loop-j.invariant (omega arith) c.put_peak.ensures

pub shape_of-dst : goal.shape_of-dst
shape_of-dst c = c.loop-j.invariant.same_length

pub returns : goal.returns
returns c = peaks_end c.loop-j.invariant (omega arith)

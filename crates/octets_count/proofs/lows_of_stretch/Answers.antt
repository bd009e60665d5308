use Rattle.std.proofs.Common.{arith, sym}
use Rattle.octets_count.proofs.Laws.{low_more, low_none}
use Rattle.octets_count.proofs.lows_of_stretch.Goals as goal

pub loop-x-init : goal.loop-x-init
loop-x-init c = (omega arith, sym low_none)

pub loop-x-preserved : goal.loop-x-preserved
loop-x-preserved c =
    let m = low_more c.loop-x.x-index c.args.s.now (omega arith) in
    (omega arith, omega arith)

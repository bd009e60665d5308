-- `book_write::put_peak` meets its contract: the block's best, found between its ends, is stored at its place.
-- No loop.
use Rattle.book_write.proofs.Peaks.{peak_stored}
use Rattle.book_write.proofs.put_peak.Goals as goal

pub returns : goal.returns
returns c =
    let a = c.args in
    peak_stored a.l a.n a.j a.dst.now c.block_end.ensures c.best_between-best.ensures.0
    c.peak_start.ensures c.write_u16.ensures

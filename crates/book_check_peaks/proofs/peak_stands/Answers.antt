-- `book_check_peaks::peak_stands` meets its contract: a position that no score of its block beats is the block's best
-- (proofs/Block). No loop, so no invariant.
use Prim.Native.Nat.{◌*◌}
use Rattle.octets.proofs.Stores.{part_bytes}
use Rattle.book.specs.Book.{block_size}
use Rattle.book_laws.specs.Check.{score_start}
use Rattle.book_check_peaks.specs.Unbeaten.{block_bytes}
use Rattle.book_check_peaks.proofs.Block.{block_peak}
use Rattle.book_check_peaks.proofs.peak_stands.Goals as goal

pub returns : goal.returns
returns c t =
    let a = c.args in
    let from = score_start (block_size * a.j) in
    let u = rw (c.score_start-from.ensures, part_bytes a.buf.now from block_bytes) at (c.stands.ensures t) in
    block_peak a.l a.buf.now a.n a.j c.peak_at-peak.result c.peak_at-peak.ensures c.if-n-first.false
    c.if-peak-first.false c.if-place-ge-BLOCK_SIZE.false (rw c.score_start-from.ensures at c.if-buf-end.false) u

-- `edit_rescore::rescore` meets its contract: what the copy and the two stores leave is the image (proofs/Whole).
-- No loop.
use Prim.Native.Nat.{◌<◌, ◌≤◌}
use mathlib.Core.Path.{sym}
use lib.ListN.{length}
use lib.Seq.{length-take-le}
use native.Mathlib.Omega.{arith}
use borrow.Author.Rules.{rules}
use Rattle.book_held.proofs.Places.{entries_stored}
use Rattle.edit_rescore.proofs.Whole.{rescored_whole}
use Rattle.edit_rescore.proofs.rescore.Goals as goal

pub slice_bounds-copy-end : goal.slice_bounds-copy-end
slice_bounds-copy-end c =
    let e = c.image-image.ensures in
    let inside : c.args.total ≤ length c.image-image.result.now =
    omega (arith, c.requires.1, (entries_stored e.held e.entries).inside)
    in
    sym (length-take-le c.args.total c.image-image.result.now inside)

pub score_start-requires : goal.score_start-requires
score_start-requires c = omega (arith, c.len-n.ensures.few, c.requires.0)

pub put_peak-requires : goal.put_peak-requires
put_peak-requires c =
    let l = c.len-n.ensures in
    (omega (arith, l.count, l.few), omega (arith, l.count, c.requires.0))

pub returns : goal.returns
returns c =
    let fits : c.args.score < 4294967296 = search rules in
    let e = c.image-image.ensures in
    rescored_whole c.image-image.result.now c.args.book.now c.args.dst.now c.args.i c.args.score e.held e.entries
    c.requires.0 c.len-n.ensures.count c.requires.1 c.requires.2 fits c.copy.ensures
    c.score_start.ensures c.write_u32.ensures (rw c.today.ensures at c.put_peak.ensures)

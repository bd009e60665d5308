-- `trie_write::write` meets its contract: the rows that were unpacked are the book's entries.
-- No loop, so no invariant.
use mathlib.Core.Path.{sym}
use lib.Seq.{length-take-le}
use native.Mathlib.Omega.{arith}
use Rattle.trie_write.proofs.Whole.{answered-same}
use Rattle.trie_write.proofs.write.Goals as goal

pub unpack-requires : goal.unpack-requires
unpack-requires c =
    let few = c.len-n.ensures.few in
    record { rows = omega (arith, few); counted = few; scored = few }

pub slice_bounds-lens-end : goal.slice_bounds-lens-end
slice_bounds-lens-end c = omega (arith, c.len-n.ensures)

pub slice_bounds-write_rows-end-2 : goal.slice_bounds-write_rows-end-2
slice_bounds-write_rows-end-2 c = sym (length-take-le _ _ (omega (arith, c.len-n.ensures)))

pub write_rows-requires : goal.write_rows-requires
write_rows-requires c =
    let e = c.len-n.ensures in
    let u = c.unpack.ensures in
    (rw e.count u.table, rw (e.count, u.same) e.ok)

pub returns : goal.returns
returns c = answered-same (rw (← c.len-n.ensures.count) at c.unpack.ensures.same) c.write_rows.ensures

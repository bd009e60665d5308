-- `edit_copy::put_behind` meets its contract: the header and the two runs, one behind the other (proofs/Puts). No loop.
--
use native.Mathlib.Omega.{arith}
use Rattle.edit_copy.proofs.Puts.{behind_put, header_most}
use Rattle.edit_copy.proofs.put_behind.Goals as goal

pub slice_bounds-copy-end : goal.slice_bounds-copy-end
slice_bounds-copy-end c = omega (arith, c.requires.within, c.requires.inside)

pub overflow_add-to : goal.overflow_add-to
overflow_add-to c =
    let q = c.requires in
    omega (arith, c.put_header-to.ensures.end, header_most c.args.b, q.near, q.within, q.small)

pub returns : goal.returns
returns c =
    behind_put c.args.b _ _ _ _ c.put_header-to.ensures (omega (arith, c.requires.within, c.requires.inside))
    c.copy.ensures c.copy-2.ensures

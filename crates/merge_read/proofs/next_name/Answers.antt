-- `merge_read::next_name` meets its contract: none is left, or the record is read (proofs/Loading).
-- No loop.
use mathlib.Core.Path.{refl}
use Prim.Native.Nat.{◌<◌}
use lib.ListN.{length}
use native.Mathlib.Omega.{arith}
use Rattle.merge_read.proofs.Loading.{loaded_end, loaded_inside, loaded_none, loaded_read, loaded_size_of}
use Rattle.merge_read.proofs.next_name.Goals as goal
use Rattle.merge_read.proofs.next_name.Goals.{Else-n-index}

-- the record is one of the book's
low : (c : Else-n-index) → c.args.index < length c.args.book.now
low c = omega (arith, c.len-n.ensures.count, c.if-n-index.false)

pub returns-then-n-index : goal.returns-then-n-index
returns-then-n-index c =
    let q = c.requires in
    (loaded_none c.len-n.ensures.ok q.1 q.0 (omega (arith, c.len-n.ensures.count, c.if-n-index.true)), refl)

pub read_name-p-requires : goal.read_name-p-requires
read_name-p-requires c =
    let q = c.requires in
    let e = c.image-image.ensures in
    loaded_inside c.len-n.ensures.ok q.1 e.held e.entries q.2 (low (goal.at.read_name-p-requires c).Else-n-index)

pub overflow_add-end : goal.overflow_add-end
overflow_add-end c =
    let q = c.requires in
    let e = c.image-image.ensures in
    omega (
      arith,
      loaded_end c.len-n.ensures.ok q.1 e.held e.entries q.2
          (low (goal.at.overflow_add-end c).Else-n-index) c.read_name-p.ensures,
    )

pub overflow_add-end-2 : goal.overflow_add-end-2
overflow_add-end-2 c =
    let q = c.requires in
    let e = c.image-image.ensures in
    omega (
      arith,
      loaded_end c.len-n.ensures.ok q.1 e.held e.entries q.2
          (low (goal.at.overflow_add-end-2 c).Else-n-index) c.read_name-p.ensures,
    )

pub overflow_add-len : goal.overflow_add-len
overflow_add-len c =
    let q = c.requires in
    let e = c.image-image.ensures in
    omega (
      arith,
      loaded_size_of c.len-n.ensures.ok q.1 e.held e.entries q.2
          (low (goal.at.overflow_add-len c).Else-n-index) c.read_name-p.ensures,
    )

pub returns : goal.returns
returns c =
    let q = c.requires in
    let e = c.image-image.ensures in (
      loaded_read c.len-n.ensures.ok q.1 e.held e.entries q.2 (low (goal.at.returns c).Else-n-index)
          c.read_name-p.ensures,
      refl,
    )

use Prim.Native.Nat.{◌+◌, ◌≤◌}
use lib.ListN.{length}
use native.Mathlib.Omega.{arith}
use Rattle.book_held.proofs.Places.{few}
use Rattle.book_name.proofs.Poising.{naming_inner, naming-inside, naming_on, naming_short}
use Rattle.book_name.proofs.read_to.Goals as goal
use Rattle.book_name.proofs.read_to.Goals.{After-read_name-p}

-- the record that is read is one of the book's, and it lies inside
inner :
    (c : After-read_name-p)
    → c.loop-index.at + (c.read_name-p.result.start + c.read_name-p.result.own) ≤ length c.image-image.result.now
inner c =
    let e = c.image-image.ensures in
    naming_inner e.held e.entries c.loop-index.invariant
    (omega (arith, c.loop-index-test.true, c.requires.0)) c.read_name-p.ensures

pub overflow_add-end : goal.overflow_add-end
overflow_add-end c =
    let e = c.image-image.ensures in
    omega (arith, c.requires.0, few e.held e.entries)

pub read_name-p-requires : goal.read_name-p-requires
read_name-p-requires c =
    let e = c.image-image.ensures in
    naming-inside e.held e.entries c.loop-index.invariant (omega (arith, c.loop-index-test.true, c.requires.0))

pub overflow_add-at : goal.overflow_add-at
overflow_add-at c = omega (arith, inner (goal.at.overflow_add-at c).After-read_name-p, c.ranges)

pub overflow_add-at-in-loop-index : goal.overflow_add-at-in-loop-index
overflow_add-at-in-loop-index c =
    omega (arith, inner (goal.at.overflow_add-at-in-loop-index c).After-read_name-p, c.ranges)

pub overflow_add-len : goal.overflow_add-len
overflow_add-len c =
    let e = c.image-image.ensures in
    omega (
      arith,
      naming_short e.held e.entries c.loop-index.invariant (omega (arith, c.loop-index-test.true, c.requires.0))
          c.read_name-p.ensures,
    )

pub loop-index-preserved : goal.loop-index-preserved
loop-index-preserved c =
    let e = c.image-image.ensures in
    naming_on e.held e.entries c.loop-index.invariant (omega (arith, c.loop-index-test.true, c.requires.0))
    c.read_name-p.ensures (omega (arith, c.loop-index-test.true))

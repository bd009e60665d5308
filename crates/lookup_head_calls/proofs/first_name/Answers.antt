-- `lookup_head_calls::first_name` meets its contract: the name stands at the head's start, its length in front of it.
-- No loop, so no invariant.
use Prim.Native.Nat.{◌-◌}
use lib.ListN.{get_or}
use native.Mathlib.Omega.{arith}
use Rattle.octets.proofs.Stores.{part_bytes}
use Rattle.entries.specs.Entries.{at}
use Rattle.lookup_head_calls.proofs.Place.{HeadAt, held_head}
use Rattle.lookup_head_calls.proofs.first_name.Goals as goal
use Rattle.lookup_head_calls.proofs.first_name.Goals.{After-head_start-start}

-- the name stands there
head_at :
    (c : After-head_start-start)
    → HeadAt c.image-image.result.now (at c.args.book.now 0).name c.head_start-start.result
head_at c =
    let e = c.image-image.ensures in
    rw (c.head_start-start.ensures, c.len-n.ensures.count) (held_head e.held e.entries c.requires)

pub head_start-start-requires : goal.head_start-start-requires
head_start-start-requires c = omega (arith, c.len-n.ensures.count, c.len-n.ensures.few)

pub overflow_sub-end : goal.overflow_sub-end
overflow_sub-end c = omega (arith, c.head_start-start.ensures)

pub bounds-image-start : goal.bounds-image-start
bounds-image-start c =
    let head = head_at (goal.at.bounds-image-start c).After-head_start-start in
    omega (arith, c.head_start-start.ensures, head.inside)

pub overflow_add-end : goal.overflow_add-end
overflow_add-end c =
    let head = head_at (goal.at.overflow_add-end c).After-head_start-start in
    omega (arith, head.inside, head.len)

pub slice_bounds-result-end : goal.slice_bounds-result-end
slice_bounds-result-end c =
    let head = head_at (goal.at.slice_bounds-result-end c).After-head_start-start in
    omega (arith, head.inside, head.len)

pub returns : goal.returns
returns c =
    let head = head_at (goal.at.returns c).After-head_start-start in
    let b = c.image-image.result.now in
    let s = c.head_start-start.result in
    rw (part_bytes b s (get_or b (s - 1) 0), head.len) head.name

use Prim.Native.Nat.{◌+◌, ◌<◌, ◌≤◌}
use mathlib.Core.Path.{◌≡◌}
use lib.ListN.{drop, length, length-drop}
use native.Mathlib.Omega.{arith}
use Rattle.entries.specs.Names.{longest_name}
use Rattle.octets.proofs.Stores.{to_end}
use Rattle.book.specs.Book.{today}
use Rattle.book_read.specs.Record.{parts_at}
use Rattle.sheet_write.proofs.Listing.{measure_end, measure_room, measure_small, measure_start}
use Rattle.sheet_write.proofs.Listing.{measure_turn, measure_two}
use Rattle.sheet_write.proofs.sheet_size.Goals as goal
use Rattle.sheet_write.proofs.sheet_size.Goals.{After-parts_at-p, In-loop-i}

-- the position is one of the book's
here : (c : In-loop-i) → c.loop-i.i < length c.args.book.now
here c = omega (arith, c.loop-i-test.true, c.len-i-end.ensures.count)

two : (c : In-loop-i) → 2 ≤ length (drop c.loop-i.at c.image-image.result.now)
two c =
    let e = c.image-image.ensures in
    measure_two e.held e.entries c.loop-i.invariant (here c)

-- the parts of the record there, and the room that they leave
told : (c : After-parts_at-p)
    → c.parts_at-p.result ≡ parts_at today.heads c.loop-i.i (drop c.loop-i.at c.image-image.result.now)
told c = rw (to_end c.image-image.result.now c.loop-i.at) at c.parts_at-p.ensures

room : (c : After-parts_at-p) → let p = c.parts_at-p.result in
    (p.kept + p.own ≤ longest_name) × (c.loop-i.at + (p.start + p.own) ≤ length c.image-image.result.now)
room c =
    let e = c.image-image.ensures in
    measure_room e.held e.entries c.loop-i.invariant
    (omega (arith, c.loop-i-test.true, c.len-i-end.ensures.count)) (told c)

pub loop-i-init : goal.loop-i-init
loop-i-init c =
    let e = c.image-image.ensures in
    measure_start e.held e.entries c.records_start-at.ensures

pub slice_bounds-parts_at-count : goal.slice_bounds-parts_at-count
slice_bounds-parts_at-count c =
    let t = two (goal.at.slice_bounds-parts_at-count c).In-loop-i in
    omega (arith, t, length-drop c.loop-i.at c.image-image.result.now)

pub slice_bounds-parts_at-start : goal.slice_bounds-parts_at-start
slice_bounds-parts_at-start c =
    let t = two (goal.at.slice_bounds-parts_at-start c).In-loop-i in
    omega (arith, t, length-drop c.loop-i.at c.image-image.result.now)

pub parts_at-p-requires : goal.parts_at-p-requires
parts_at-p-requires c =
    rw (to_end c.image-image.result.now c.loop-i.at) (two (goal.at.parts_at-p-requires c).In-loop-i)

pub overflow_add-total : goal.overflow_add-total
overflow_add-total c =
    omega (arith, (room (goal.at.overflow_add-total c).After-parts_at-p).0)

pub overflow_add-total-in-loop-i : goal.overflow_add-total-in-loop-i
overflow_add-total-in-loop-i c =
    omega (arith, (room (goal.at.overflow_add-total-in-loop-i c).After-parts_at-p).0)

pub overflow_add-total-in-loop-i-2 : goal.overflow_add-total-in-loop-i-2
overflow_add-total-in-loop-i-2 c =
    let w = (goal.at.overflow_add-total-in-loop-i-2 c).After-parts_at-p in
    let e = c.image-image.ensures in
    omega (arith, (room w).0, measure_small e.held e.entries c.loop-i.invariant)

pub overflow_add-at : goal.overflow_add-at
overflow_add-at c =
    omega (arith, (room (goal.at.overflow_add-at c).After-parts_at-p).1)

pub overflow_add-at-in-loop-i : goal.overflow_add-at-in-loop-i
overflow_add-at-in-loop-i c =
    omega (arith, (room (goal.at.overflow_add-at-in-loop-i c).After-parts_at-p).1)

pub loop-i-preserved : goal.loop-i-preserved
loop-i-preserved c =
    let e = c.image-image.ensures in
    let w = goal.at.loop-i-preserved c in
    measure_turn e.held e.entries c.loop-i.invariant (here w.In-loop-i) (told w.After-parts_at-p)

pub returns : goal.returns
returns c =
    let e = c.image-image.ensures in
    measure_end e.held e.entries c.loop-i.invariant (omega (arith, c.loop-i-test.false, c.len-i-end.ensures.count))

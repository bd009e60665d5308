use Prim.Native.Nat.{◌+◌, ◌<◌}
use mathlib.Core.Path.{◌∙◌, ◌≡◌, sym}
use lib.ListN.{length, take}
use lib.Seq.{length-take-le}
use native.Mathlib.Omega.{arith}
use borrow.Author.Rules.{rules}
use Rattle.book_read.proofs.Reading.{Given}
use Rattle.sheet_write.proofs.Listing.{given, inside, sheet_length_lem, write_end, write_room, write_start, write_turn}
use Rattle.sheet_write.proofs.fill_sheet.Goals as goal
use Rattle.sheet_write.proofs.fill_sheet.Goals.{After-read_name-p, In-loop-i}

-- the position is one of the book's
here : (c : In-loop-i) → c.loop-i.i < length c.args.book.now
here c = omega (arith, c.loop-i-test.true, c.len-i-end.ensures.count)

-- the entry that was read, and the length of its name
read :
    (c : After-read_name-p)
    → Given c.image-image.result.now c.loop-i.from c.loop-i.i c.read_name-p.new.name c.read_name-p.result
read c =
    let e = c.image-image.ensures in
    given e.held e.entries c.loop-i.invariant.reading (omega (arith, c.loop-i-test.true, c.len-i-end.ensures.count))
    c.read_name-p.ensures

taken : (c : After-read_name-p) → let p = c.read_name-p.result in
    length (take (p.kept + p.own) c.read_name-p.new.name) ≡ p.kept + p.own
taken c = length-take-le _ _ (omega (arith, (read c).small, (read c).next.long))

pub put_frame-requires : goal.put_frame-requires
put_frame-requires c =
    let e = c.len.ensures in
    let size = sheet_length_lem _ e.ok in
    (omega (arith, c.requires.0, c.requires.1, size.0, size.1), omega (arith, e.count, e.few))

pub loop-i-init : goal.loop-i-init
loop-i-init c =
    let e = c.image-image.ensures in
    write_start e.held e.entries _ c.records_start-from.ensures (search rules)
    (omega (arith, c.put_frame.auto.dst, c.requires.0, c.requires.1))

pub read_name-p-requires : goal.read_name-p-requires
read_name-p-requires c =
    let e = c.image-image.ensures in
    inside e.held e.entries c.loop-i.invariant.reading (here (goal.at.read_name-p-requires c).In-loop-i)

pub overflow_add-len : goal.overflow_add-len
overflow_add-len c =
    omega (arith, (read (goal.at.overflow_add-len c).After-read_name-p).small)

pub slice_bounds-name-end : goal.slice_bounds-name-end
slice_bounds-name-end c =
    let w = read (goal.at.slice_bounds-name-end c).After-read_name-p in omega (arith, w.small, w.next.long)

pub slice_bounds-put_entry-end : goal.slice_bounds-put_entry-end
slice_bounds-put_entry-end c =
    sym (taken (goal.at.slice_bounds-put_entry-end c).After-read_name-p)

pub put_entry-at-requires : goal.put_entry-at-requires
put_entry-at-requires c =
    let e = c.image-image.ensures in
    let p = goal.at.put_entry-at-requires c in
    let w = p.After-read_name-p in
    let m = write_room e.held e.entries c.loop-i.invariant (here p.In-loop-i) (read w) in
    (omega (arith, taken w, (read w).small), omega (arith, taken w, m))

pub overflow_add-from : goal.overflow_add-from
overflow_add-from c =
    omega (arith, (read (goal.at.overflow_add-from c).After-read_name-p).inside, c.ranges)

pub overflow_add-from-in-loop-i : goal.overflow_add-from-in-loop-i
overflow_add-from-in-loop-i c =
    omega (arith, (read (goal.at.overflow_add-from-in-loop-i c).After-read_name-p).inside, c.ranges)

pub loop-i-preserved : goal.loop-i-preserved
loop-i-preserved c =
    let e = c.image-image.ensures in
    let p = goal.at.loop-i-preserved c in
    rw c.put_entry-at.ensures.1
    (write_turn e.held e.entries c.loop-i.invariant (here p.In-loop-i) (read p.After-read_name-p)
    c.score-score.ensures c.put_entry-at.ensures.0)

pub shape_of-dst : goal.shape_of-dst
shape_of-dst c =
    c.loop-i.invariant.same_length ∙ c.put_frame.auto.dst

pub returns : goal.returns
returns c =
    let e = c.image-image.ensures in
    write_end e.held e.entries c.loop-i.invariant (omega (arith, c.loop-i-test.false, c.len-i-end.ensures.count)) _
    c.requires.0 c.requires.1 (rw c.len.ensures.count at c.put_frame.ensures)

use Prim.Native.Nat.{◌<◌}
use lib.ListN.{length}
use native.Mathlib.Omega.{arith}
use borrow.Author.Rules.{rules}
use Rattle.entries.specs.Entries.{max_entries}
use Rattle.book_held.proofs.Places.{counted}
use Rattle.book_read.proofs.Reading.{Given, read_inside}
use Rattle.book_table.proofs.Unpacking.{given, unpack_end, unpack_start, unpack_turn}
use Rattle.book_table.proofs.unpack.Goals as goal
use Rattle.book_table.proofs.unpack.Goals.{After-read_name-p, In-loop-i}

-- the position is one of the book's
here : (c : In-loop-i) → c.loop-i.i < length c.args.book.now
here c = omega (arith, c.loop-i-test.true, c.len-i-end.ensures.count)

low : (c : In-loop-i) → c.loop-i.i < max_entries
low c = omega (arith, here c, c.len-i-end.ensures.few)

-- the record that is read is one of the book's
read :
    (c : After-read_name-p)
    → Given c.image-image.result.now c.loop-i.at c.loop-i.i c.read_name-p.new.name c.read_name-p.result
read c =
    let e = c.image-image.ensures in
    given e.held e.entries c.loop-i.invariant.reading (omega (arith, c.loop-i-test.true, c.len-i-end.ensures.count))
    c.read_name-p.ensures

pub loop-i-init : goal.loop-i-init
loop-i-init c =
    let e = c.image-image.ensures in
    unpack_start e.held e.entries _ c.requires c.records_start-at.ensures (search rules)

pub read_name-p-requires : goal.read_name-p-requires
read_name-p-requires c =
    let e = c.image-image.ensures in
    read_inside e.held c.loop-i.invariant.reading
    (omega (arith, c.loop-i-test.true, c.len-i-end.ensures.count, counted e.held e.entries))

pub overflow_add-len : goal.overflow_add-len
overflow_add-len c = omega (arith, (read (goal.at.overflow_add-len c).After-read_name-p).small)

pub overflow_mul-i : goal.overflow_mul-i
overflow_mul-i c = omega (arith, low (goal.at.overflow_mul-i c).In-loop-i)

pub put_row-requires : goal.put_row-requires
put_row-requires c =
    let r = read (goal.at.put_row-requires c).After-read_name-p in
    (r.next.long, omega (arith, here (goal.at.put_row-requires c).In-loop-i, c.loop-i.invariant.room.rows))

pub overflow_cast-lens : goal.overflow_cast-lens
overflow_cast-lens c = omega (arith, (read (goal.at.overflow_cast-lens c).After-read_name-p).small)

pub bounds-lens-i : goal.bounds-lens-i
bounds-lens-i c = omega (arith, here (goal.at.bounds-lens-i c).In-loop-i, c.loop-i.invariant.room.counted)

pub offset_bounds-scores-i : goal.offset_bounds-scores-i
offset_bounds-scores-i c = omega (arith, low (goal.at.offset_bounds-scores-i c).In-loop-i)

pub bounds-scores-i : goal.bounds-scores-i
bounds-scores-i c = omega (arith, here (goal.at.bounds-scores-i c).In-loop-i, c.loop-i.invariant.room.scored)

pub overflow_add-at : goal.overflow_add-at
overflow_add-at c = omega (arith, (read (goal.at.overflow_add-at c).After-read_name-p).inside)

pub overflow_add-at-in-loop-i : goal.overflow_add-at-in-loop-i
overflow_add-at-in-loop-i c = omega (arith, (read (goal.at.overflow_add-at-in-loop-i c).After-read_name-p).inside)

pub loop-i-preserved : goal.loop-i-preserved
loop-i-preserved c =
    let e = c.image-image.ensures in
    let p = goal.at.loop-i-preserved c in
    unpack_turn e.held e.entries c.loop-i.invariant (here p.In-loop-i) (read p.After-read_name-p) c.score.ensures
    c.put_row.ensures

pub shape_of-names : goal.shape_of-names
shape_of-names c = c.loop-i.invariant.same_names

pub shape_of-lens : goal.shape_of-lens
shape_of-lens c = c.loop-i.invariant.same_lens

pub shape_of-scores : goal.shape_of-scores
shape_of-scores c = c.loop-i.invariant.same_scores

pub returns : goal.returns
returns c =
    let e = c.image-image.ensures in
    unpack_end e.held e.entries c.loop-i.invariant (omega (arith, c.loop-i-test.false, c.len-i-end.ensures.count))

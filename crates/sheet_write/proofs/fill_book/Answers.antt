use mathlib.Core.Path.{◌∙◌}
use native.Mathlib.Omega.{arith}
use Rattle.book.specs.Book.{today}
use Rattle.book.proofs.Size.{book_length_lem}
use Rattle.sheet.specs.Sheet.{in_sheet}
use Rattle.sheet_write.proofs.Building.{fill_end, fill_here, fill_room, fill_start, fill_turn}
use Rattle.sheet_write.proofs.Entries.{Here}
use Rattle.sheet_check.proofs.Held.{sheet_few, sheet_ok}
use Rattle.sheet_write.proofs.fill_book.Goals as goal
use Rattle.sheet_write.proofs.fill_book.Goals.{In-loop-i}

-- the entry at the index reached
there : (c : In-loop-i) → Here c.args.sheet.now (in_sheet c.args.sheet.now) c.loop-i.i c.loop-i.from
there c = fill_here c.requires.0 c.loop-i.invariant c.loop-i-test.true

pub records_at-at-requires : goal.records_at-at-requires
records_at-at-requires c = sheet_few c.requires.0

pub loop-i-init : goal.loop-i-init
loop-i-init c = fill_start c.requires.0 (omega arith) (rw c.today-l.ensures at c.records_at-at.ensures)

pub overflow_add-start : goal.overflow_add-start
overflow_add-start c = omega (arith, (there (goal.at.overflow_add-start c).In-loop-i).room)

pub bounds-sheet-from : goal.bounds-sheet-from
bounds-sheet-from c = omega (arith, (there (goal.at.bounds-sheet-from c).In-loop-i).room)

pub overflow_cast-end : goal.overflow_cast-end
overflow_cast-end c = omega (arith, (there (goal.at.overflow_cast-end c).In-loop-i).room)

pub overflow_add-end : goal.overflow_add-end
overflow_add-end c = omega (arith, (there (goal.at.overflow_add-end c).In-loop-i).room)

pub slice_bounds-name-end : goal.slice_bounds-name-end
slice_bounds-name-end c = omega (arith, (there (goal.at.slice_bounds-name-end c).In-loop-i).room)

pub put_entry-at-requires : goal.put_entry-at-requires
put_entry-at-requires c = rw c.today-l.ensures (fill_room c.requires.0 c.loop-i.invariant c.loop-i-test.true)

pub overflow_add-from : goal.overflow_add-from
overflow_add-from c = omega (arith, (there (goal.at.overflow_add-from c).In-loop-i).room)

pub loop-i-preserved : goal.loop-i-preserved
loop-i-preserved c =
    fill_turn c.requires.0 c.loop-i.invariant c.loop-i-test.true c.read_u32-score.ensures
    (rw c.today-l.ensures at c.put_entry-at.ensures)

pub finish-requires : goal.finish-requires
finish-requires c =
    (sheet_few c.requires.0, omega (arith, book_length_lem today (in_sheet c.args.sheet.now) (sheet_ok c.requires.0)))

pub shape_of-dst : goal.shape_of-dst
shape_of-dst c = c.finish.auto.dst ∙ c.loop-i.invariant.put.same_length

pub returns : goal.returns
returns c =
    (rw c.today-l.ensures at c.finish.ensures)
    ∙ fill_end c.requires.0 c.loop-i.invariant c.loop-i-test.false c.requires.1

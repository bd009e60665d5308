use mathlib.Core.Path.{ap}
use lib.ListN.{length}
use native.Mathlib.Omega.{arith}
use Rattle.sheet.specs.Sheet.{in_sheet}
use Rattle.sheet_write.proofs.Building.{size_end, size_here, size_small, size_start, size_turn}
use Rattle.sheet_write.proofs.Entries.{Here}
use Rattle.sheet_check.proofs.Held.{sheet_few}
use Rattle.sheet_write.proofs.book_size.Goals as goal
use Rattle.sheet_write.proofs.book_size.Goals.{In-loop-i}

-- the entry at the index reached
there : (c : In-loop-i) → Here c.args.sheet.now (in_sheet c.args.sheet.now) c.loop-i.i c.loop-i.at
there c = size_here c.requires c.loop-i.invariant c.loop-i-test.true

pub records_at-total-requires : goal.records_at-total-requires
records_at-total-requires c = sheet_few c.requires

pub loop-i-init : goal.loop-i-init
loop-i-init c = size_start c.requires (rw c.today.ensures at c.records_at-total.ensures)

pub overflow_add-start : goal.overflow_add-start
overflow_add-start c = omega (arith, (there (goal.at.overflow_add-start c).In-loop-i).room)

pub bounds-sheet-at : goal.bounds-sheet-at
bounds-sheet-at c = omega (arith, (there (goal.at.bounds-sheet-at c).In-loop-i).room)

pub overflow_cast-end : goal.overflow_cast-end
overflow_cast-end c = omega (arith, (there (goal.at.overflow_cast-end c).In-loop-i).room)

pub overflow_add-end : goal.overflow_add-end
overflow_add-end c = omega (arith, (there (goal.at.overflow_add-end c).In-loop-i).room)

pub slice_bounds-name-end : goal.slice_bounds-name-end
slice_bounds-name-end c = omega (arith, (there (goal.at.slice_bounds-name-end c).In-loop-i).room)

pub record_size-total-requires : goal.record_size-total-requires
record_size-total-requires c =
    let h = there (goal.at.record_size-total-requires c).In-loop-i in omega (arith, ap length h.name, h.short)

pub overflow_add-total : goal.overflow_add-total
overflow_add-total c =
    omega (arith, size_small c.requires c.loop-i.invariant, c.record_size-total.ensures.small)

pub overflow_add-at : goal.overflow_add-at
overflow_add-at c = omega (arith, (there (goal.at.overflow_add-at c).In-loop-i).room)

pub loop-i-preserved : goal.loop-i-preserved
loop-i-preserved c =
    size_turn c.requires c.loop-i.invariant c.loop-i-test.true c.record_size-total.ensures

pub returns : goal.returns
returns c = size_end c.requires c.loop-i.invariant c.loop-i-test.false

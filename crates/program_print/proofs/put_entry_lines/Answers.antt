use native.Mathlib.Omega.{arith}
use Rattle.sheet.specs.Sheet.{sheet_from}
use Rattle.sheet_write.proofs.Entries.{Here}
use Rattle.program_print.proofs.Printing.{offer_end, offer_here, offer_on, offer_room}
use Rattle.program_print.proofs.put_entry_lines.Goals as goal
use Rattle.program_print.proofs.put_entry_lines.Goals.{In-loop}

-- the entry whose line is next
stands : (c : In-loop) → Here c.args.answer.now (sheet_from c.args.n c.args.answer.now) c.loop.counter c.loop.at
stands c = offer_here c.loop.invariant c.requires.0 c.loop-test.true

pub overflow_add-start : goal.overflow_add-start
overflow_add-start c = omega (arith, (stands c).room)

pub bounds-answer-at : goal.bounds-answer-at
bounds-answer-at c = omega (arith, (stands (goal.at.bounds-answer-at c).In-loop).room)

pub overflow_add-stop : goal.overflow_add-stop
overflow_add-stop c = omega (arith, (stands (goal.at.overflow_add-stop c).In-loop).room)

pub slice_bounds-put_entry_line-end : goal.slice_bounds-put_entry_line-end
slice_bounds-put_entry_line-end c = omega (arith, (stands (goal.at.slice_bounds-put_entry_line-end c).In-loop).room)

pub put_entry_line-end-requires : goal.put_entry_line-end-requires
put_entry_line-end-requires c = offer_room c.loop.invariant c.requires.0 c.loop-test.true

pub overflow_add-at : goal.overflow_add-at
overflow_add-at c = omega (arith, (stands (goal.at.overflow_add-at c).In-loop).room)

pub loop-preserved : goal.loop-preserved
loop-preserved c =
    offer_on c.loop.invariant c.requires.0 c.loop-test.true
    c.read_u32-score.ensures c.put_entry_line-end.ensures

pub returns : goal.returns
returns c = offer_end c.loop.invariant c.requires.0 c.loop-test.false

use Prim.Native.Nat.{◌+◌, ◌≤◌}
use mathlib.Core.Path.{◌∙◌, ◌≡◌, ap, sym}
use mathlib.Core.Bool.{true}
use lib.ListN.{drop, get_or, length}
use native.Mathlib.Omega.{arith}
use Rattle.octets.proofs.Stores.{to_end}
use Rattle.frame_code.specs.Image.{ended_as}
use Rattle.sheet_check.specs.Check.{row_is}
use Rattle.sheet_check.proofs.RowLoop.{pass_bad, pass_end, pass_room, pass_start, pass_turn}
use Rattle.sheet_check.proofs.rows_end.Goals as goal
use Rattle.sheet_check.proofs.rows_end.Goals.{Else-not-row_is}

-- the row passes its test, and its bytes are there
passed : (c : Else-not-row_is) → row_is c.loop.prev.now (drop c.loop.at c.args.buf.now) ≡ true
passed c = (rw (to_end c.args.buf.now c.loop.at) at (sym c.row_is.ensures)) ∙ c.if-not-row_is.false

room : (c : Else-not-row_is) → c.loop.at + 1 + get_or c.args.buf.now c.loop.at 0 + 4 ≤ length c.args.buf.now
room c = pass_room c.loop.invariant c.loop-test.true (passed c)

pub loop-init : goal.loop-init
loop-init c = pass_start _ _ c.requires.1

pub slice_bounds-row_is-count : goal.slice_bounds-row_is-count
slice_bounds-row_is-count c = c.loop.invariant.inside

pub slice_bounds-row_is-start : goal.slice_bounds-row_is-start
slice_bounds-row_is-start c = c.loop.invariant.inside

pub returns-then-not-row_is : goal.returns-then-not-row_is
returns-then-not-row_is c =
    sym
    (ap ended_as
    (pass_bad c.loop.invariant c.loop-test.true
    ((rw (to_end c.args.buf.now c.loop.at) at (sym c.row_is.ensures)) ∙ c.if-not-row_is.true)))

pub overflow_add-start : goal.overflow_add-start
overflow_add-start c = omega (arith, room (goal.at.overflow_add-start c).Else-not-row_is)

pub bounds-buf-at : goal.bounds-buf-at
bounds-buf-at c = omega (arith, room (goal.at.bounds-buf-at c).Else-not-row_is)

pub overflow_add-end : goal.overflow_add-end
overflow_add-end c = omega (arith, room (goal.at.overflow_add-end c).Else-not-row_is)

pub slice_bounds-prev-end-in-loop : goal.slice_bounds-prev-end-in-loop
slice_bounds-prev-end-in-loop c = omega (arith, room (goal.at.slice_bounds-prev-end-in-loop c).Else-not-row_is)

pub overflow_add-at : goal.overflow_add-at
overflow_add-at c = omega (arith, room (goal.at.overflow_add-at c).Else-not-row_is)

pub loop-preserved : goal.loop-preserved
loop-preserved c =
    pass_turn c.loop.invariant c.loop-test.true (passed (goal.at.loop-preserved c).Else-not-row_is)

pub returns : goal.returns
returns c = sym (ap ended_as (pass_end c.loop.invariant c.loop-test.false))

-- `merge_read::next_entry` meets its contract: which entries are due, the one that is chosen, and both books gone on
-- (proofs/Turning). No loop.
use mathlib.Core.Path.{◌≡◌, sym}
use mathlib.Core.Bool.{◌||◌, true}
use native.Mathlib.Omega.{arith}
use Rattle.merge_read.proofs.Turning.{due_low, loaded_fits, loaded_short, loaded_size, none_next, turned}
use Rattle.merge_read.proofs.next_entry.Goals as goal
use Rattle.merge_read.proofs.next_entry.Goals.{else-not-first_due-via-else-not-first_due}
use Rattle.merge_read.proofs.next_entry.Goals.{else-not-first_due-via-then-not-first_due+else-not-second_due}

pub slice_bounds-s-end : goal.slice_bounds-s-end
slice_bounds-s-end c = loaded_fits c.requires.0

pub slice_bounds-s-end-2 : goal.slice_bounds-s-end-2
slice_bounds-s-end-2 c = sym (loaded_size c.requires.0)

pub slice_bounds-t-end : goal.slice_bounds-t-end
slice_bounds-t-end c = loaded_fits c.requires.1

pub slice_bounds-t-end-2 : goal.slice_bounds-t-end-2
slice_bounds-t-end-2 c = sym (loaded_size c.requires.1)

pub is_due_too-second_due-requires : goal.is_due_too-second_due-requires
is_due_too-second_due-requires c = c.is_due-first_due.ensures

pub move_on-requires : goal.move_on-requires
move_on-requires c =
    let q = c.requires in
    (q.0, due_low q.0 q.1 c.is_due-first_due.ensures)

pub move_on-requires-2 : goal.move_on-requires-2
move_on-requires-2 c =
    let q = c.requires in
    (q.1, λ t. due_low q.1 q.0 c.is_due_too-second_due.ensures cc)

pub returns-then-not-second_due : goal.returns-then-not-second_due
returns-then-not-second_due c =
    let q = c.requires in
    record {
      of_first = q.0;
      of_second = q.1;
      none =
          none_next q.0 q.1 c.is_due-first_due.ensures c.is_due_too-second_due.ensures
          (rw (c.if-not-first_due.true, c.if-not-second_due.true));
    }

pub returns : goal.returns
returns c =
    let q = c.requires in
    turned q.0 q.1 c.is_due-first_due.ensures c.is_due_too-second_due.ensures c.choose-e.ensures
    (elim c.else-not-first_due.branch [
      | else-not-first_due-via-then-not-first_due+else-not-second_due w ↦
          rw (w.if-not-first_due.true, w.if-not-second_due.false)
      | else-not-first_due-via-else-not-first_due w ↦ rw w.if-not-first_due.false
    ])
    c.move_on.ensures c.move_on-2.ensures

-- what `choose` asks holds for the two books exchanged as well: such a call has to be refused in `returns`, above
pub choose-e-requires : goal.choose-e-requires
choose-e-requires c =
    let q = c.requires in
    let s = loaded_short q.0 in
    let t = loaded_short q.1 in
    -- one of the two is due
    let one : (c.is_due-first_due.result || c.is_due_too-second_due.result) ≡ true =
    elim c.else-not-first_due.branch [
      | else-not-first_due-via-then-not-first_due+else-not-second_due w ↦
          rw (w.if-not-first_due.true, w.if-not-second_due.false)
      | else-not-first_due-via-else-not-first_due w ↦ rw w.if-not-first_due.false
    ]
    in (
      due_low q.0 q.1 c.is_due-first_due.ensures,
      λ z. due_low q.1 q.0 c.is_due_too-second_due.ensures (rw z at one),
      omega (arith, s, t, q.2),
      omega (arith, s, t, q.2),
    )

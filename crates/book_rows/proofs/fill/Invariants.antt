-- `book_rows::fill` meets its contract. The loop's invariant: every row whose position is before the cursor is filled,
-- and no position wanted lies between the cursor and the next one (proofs/Filling). The measure is the number of
-- positions from the next one on.
use Prim.Native.Nat.{◌-◌}
use Rattle.book_rows.proofs.Filling.{Filling}
use Rattle.book_rows.proofs.fill.Given as goal

abbrev pub invariant-loop-next : goal.invariant-loop-next
invariant-loop-next l =
    Filling l.book l.n l.wanted l.initial.rows l.initial.lens l.rows l.lens l.c l.next

abbrev pub decreases-loop-next : goal.decreases-loop-next
decreases-loop-next l = l.n - l.next

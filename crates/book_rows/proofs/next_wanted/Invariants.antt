-- `book_rows::next_wanted` meets its contract. The loop's invariant: the least of the positions passed that are not
-- before `from` is known (proofs/Filling).
use Prim.Native.Nat.{◌≤◌}
use lib.ListN.{length}
use Rattle.book_rows.proofs.Filling.{Nearest}
use Rattle.book_rows.proofs.next_wanted.Given as goal

abbrev pub invariant-loop-position : goal.invariant-loop-position
invariant-loop-position l = (l.position-index ≤ length l.wanted) × Nearest l.wanted l.from l.end l.position-index l.least

-- `book_table::unpack` meets its contract. The loop's invariant: the rows before the position reached hold the entries
-- before it.
use Rattle.book_table.proofs.Unpacking.{Unpacking}
use Rattle.book_table.proofs.unpack.Given as goal

abbrev pub invariant-loop-i : goal.invariant-loop-i
invariant-loop-i l =
    Unpacking l.image l.book l.initial.names l.initial.lens l.initial.scores l.names l.lens l.scores l.name l.at l.i

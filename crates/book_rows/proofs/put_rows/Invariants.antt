-- `book_rows::put_rows` meets its contract. The loop's invariant: the rows before the j-th are done (proofs/Filling).
use Rattle.book_rows.proofs.Filling.{Placing}
use Rattle.book_rows.proofs.put_rows.Given as goal

abbrev pub invariant-loop-j : goal.invariant-loop-j
invariant-loop-j l = Placing l.c l.wanted l.initial.rows l.initial.lens l.rows l.lens l.j

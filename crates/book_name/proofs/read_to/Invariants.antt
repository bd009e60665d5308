-- `book_name::read_to` meets its contract. The loop's invariant: the cursor can be read on from, and behind a record
-- that was read the array holds its name (proofs/Poising).
use Rattle.book_name.proofs.Poising.{Naming}
use Rattle.book_name.proofs.read_to.Given as goal

abbrev pub invariant-loop-index : goal.invariant-loop-index
invariant-loop-index l = Naming l.book l.fn.from.index l.i l.at l.index l.name l.len

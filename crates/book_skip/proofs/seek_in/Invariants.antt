-- `book_skip::seek_in` meets its contract. The loop's invariant: `Skipping` (proofs/Skipping), what is known of the key
-- among the names passed.
use Rattle.book_skip.proofs.Skipping.{Skipping}
use Rattle.book_skip.proofs.seek_in.Given as goal

abbrev pub invariant-loop-index : goal.invariant-loop-index
invariant-loop-index l = Skipping l.fn.l l.key l.image l.n l.start l.at l.index l.s l.limit

-- `book_check_walk::walk_plain` meets its contract. The loop's invariant: `Going` (proofs/Counted), and a record that
-- keeps `limit` bytes or more changes nothing of the search.
use Rattle.book_laws.specs.Cursor.{cursor_of}
use Rattle.book_seek.specs.Seek.{Quiet}
use Rattle.book_check_walk.proofs.Counted.{Going}
use Rattle.book_check_walk.proofs.walk_plain.Given as goal

abbrev pub invariant-loop-index : goal.invariant-loop-index
invariant-loop-index l =
    Going l.key l.buf l.n l.start l.total (cursor_of l.at l.index l.name l.len) l.found l.s × Quiet l.key l.s l.limit

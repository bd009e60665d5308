-- `book_check_walk::walk_each` meets its contract. The loop's invariant: the records from index `at` on end where all
-- of them do, the array stays 48 bytes long, without heads the search stands where the names read so far take it, and a
-- record that keeps `limit` bytes or more changes nothing of it.
use Prim.Native.Nat.{◌≤◌}
use mathlib.Core.Path.{◌≡◌}
use mathlib.Core.Bool.{false}
use lib.ListN.{length}
use Rattle.entries.specs.Names.{longest_name}
use Rattle.book_laws.specs.Cursor.{cursor_of}
use Rattle.book_seek.specs.Seek.{Quiet, settled}
use Rattle.book_check_walk.proofs.Reached.{Reached}
use Rattle.book_check_walk.proofs.Walking.{Walking}
use Rattle.book_check_walk.proofs.walk_each.Given as goal

abbrev pub invariant-loop-index : goal.invariant-loop-index
invariant-loop-index l =
    Walking l.l l.buf l.n l.start (cursor_of l.at l.index l.name l.len) × (length l.name ≡ longest_name) × (l.s.below ≤ length l.key)
    × (l.l.heads ≡ false → Reached l.key l.buf l.n l.start (cursor_of l.at l.index l.name l.len) (settled l.s l.index l.at))
    × Quiet l.key l.s l.limit

-- `merge_calls::pass` meets its contract. The loop's invariant: to pass the entries that are left gives what to pass
-- all of them gives (proofs/Turns), and the arrays that are lent stay 48 bytes long.
use mathlib.Core.Path.{◌≡◌}
use lib.ListN.{length}
use Rattle.entries.specs.Names.{longest_name}
use Rattle.book_laws.specs.Cursor.{cursor_of}
use Rattle.merge_calls.proofs.Turns.{PassLeft}
use Rattle.merge_calls.proofs.pass.Given as goal

abbrev pub invariant-loop-index : goal.invariant-loop-index
invariant-loop-index l =
    PassLeft l.first l.second l.initial.dst l.count l.at l.store l.x l.a l.y l.b l.dst
    (cursor_of l.to_at l.index l.prev l.prev_len)
    × (length l.name ≡ longest_name)
    × (length l.prev ≡ longest_name)

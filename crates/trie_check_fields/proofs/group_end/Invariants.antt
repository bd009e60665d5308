-- `trie_check_fields::group_end` meets its contract. Invariant: the group ends where the rest of it from `from` on
-- does. Measure: the bytes from `from` on.
use Prim.Native.Nat.{◌-◌}
use lib.ListN.{length}
use Rattle.trie_check_fields.proofs.Ends.{EndsWith}
use Rattle.trie_check_fields.proofs.group_end.Given as goal

abbrev pub invariant-loop-n : goal.invariant-loop-n
invariant-loop-n l = EndsWith l.buf l.at l.from

abbrev pub decreases-loop-n : goal.decreases-loop-n
decreases-loop-n l = length l.buf - l.from

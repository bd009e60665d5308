-- `trie_find_turns::follow` meets its contract: each node's next sibling is put among those that wait, until the node
-- is a leaf. Invariant: what a turn gives from the first node it gives from this one. The bytes ahead of the node fall.
--
use Prim.Native.Nat.{◌-◌}
use lib.ListN.{length}
use Rattle.trie_find_turns.proofs.Turning.{Following}
use Rattle.trie_find_turns.proofs.follow.Given as goal

abbrev pub invariant-loop-queue : goal.invariant-loop-queue
invariant-loop-queue l = Following l.trie l.most l.initial.node l.initial.queue l.node l.queue

abbrev pub decreases-loop-queue : goal.decreases-loop-queue
decreases-loop-queue l = length l.trie - l.node.at

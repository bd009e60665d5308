-- `trie_find_turns::descend` meets its contract: the way goes down or to the next sibling until the prefix begins the
-- node's path. Invariant: where the way leads from the first node it leads from this one. The bytes ahead of the node
-- fall.
use Prim.Native.Nat.{◌-◌}
use lib.ListN.{length}
use Rattle.trie_find_turns.proofs.Leading.{Heading}
use Rattle.trie_find_turns.proofs.descend.Given as goal

abbrev pub invariant-loop-node : goal.invariant-loop-node
invariant-loop-node l = Heading l.trie l.prefix l.initial.node l.node

abbrev pub decreases-loop-node : goal.decreases-loop-node
decreases-loop-node l = length l.trie - l.node.at

-- `trie_write_nodes::nodes_size` meets its contract. The loop's invariant: the bytes counted, with the nodes left
-- counted now, are the whole.
use Rattle.trie_write_nodes.proofs.Loops.{NodesSizing}
use Rattle.trie_write_nodes.proofs.nodes_size.Given as goal

abbrev pub invariant-loop-i : goal.invariant-loop-i
invariant-loop-i l = NodesSizing l.runs l.initial.f l.f l.sum l.i

-- `trie_write_nodes::put_nodes` meets its contract. The loop's invariant: the bytes put, with the nodes left put now,
-- are the whole.
use Rattle.trie_write_nodes.proofs.Loops.{Putting}
use Rattle.trie_write_nodes.proofs.put_nodes.Given as goal

abbrev pub invariant-loop-i : goal.invariant-loop-i
invariant-loop-i l = Putting l.names l.d l.runs l.initial.f l.initial.dst l.start l.f l.at l.i l.dst

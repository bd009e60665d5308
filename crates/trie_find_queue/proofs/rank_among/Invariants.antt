-- `trie_find_queue::rank_among` meets its contract: the nodes in front of x are counted until one does not come before
-- it. Invariant: the count so far and the rank among the nodes that are left make the rank.
use Rattle.trie_find_queue.proofs.Moves.{Placing}
use Rattle.trie_find_queue.proofs.rank_among.Given as goal

abbrev pub invariant-loop-i : goal.invariant-loop-i
invariant-loop-i l = Placing l.x l.y-items l.i

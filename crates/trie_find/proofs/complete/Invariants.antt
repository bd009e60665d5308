-- `trie_find::complete` meets its contract: turn by turn, until k are offered or no node waits.
-- Invariant: the entries offered so far and those that the search still offers are the completion; the bytes of the
-- first stand at the front of the destination.
use Rattle.trie_find.proofs.Offering.{TrieOffering}
use Rattle.trie_find.proofs.complete.Given as goal

abbrev pub invariant-loop-offered : goal.invariant-loop-offered
invariant-loop-offered l =
    TrieOffering l.trie l.prefix l.k l.initial.dst l.dst l.queue
    l.offered l.bytes

-- `trie_find::put_leaf` meets its contract: the path in the array and the score are written as one entry.
-- No loop, so no invariant.
use native.Mathlib.Omega.{arith}
use Rattle.answer.proofs.Entries.{length-entry_bytes}
use Rattle.trie_find_queue.specs.Waits.{known_of}
use Rattle.trie_find.proofs.put_leaf.Goals as goal

pub returns : goal.returns
returns c =
    let e = c.put_entry.ensures in
    (e.0, omega (arith, e.1, length-entry_bytes (known_of c.args.x)))

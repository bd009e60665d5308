-- `trie_find_turns::put_next` meets its contract: without a next sibling nothing comes to wait, else it is put in its
-- place. No loop, so no invariant.
use Prim.Native.Nat.{◌≤◌}
use Rattle.entries.specs.Names.{longest_name}
use Rattle.trie_find_turns.proofs.Standing.{next_short}
use Rattle.trie_find_turns.proofs.Turning.{put_kept, put_more}
use Rattle.trie_find_turns.proofs.put_next.Goals as goal

pub returns-then-x : goal.returns-then-x
returns-then-x c =
    put_kept c.args.trie.now c.args.most c.args.x c.args.q c.requires.few c.if-x.true

pub next_sibling-y-requires : goal.next_sibling-y-requires
next_sibling-y-requires c = c.requires.room c.if-x.false

pub put-requires : goal.put-requires
put-requires c =
    let short : c.next_sibling-y.result.len ≤ longest_name = rw c.next_sibling-y.ensures
    (next_short c.args.trie.now c.args.x (c.requires.room c.if-x.false)) in
    (c.requires.ready, short, c.requires.few, c.requires.most_few)

pub returns : goal.returns
returns c =
    put_more c.args.trie.now c.args.most c.args.x c.next_sibling-y.result c.args.q
    c.put.result c.if-x.false c.next_sibling-y.ensures c.put.ensures

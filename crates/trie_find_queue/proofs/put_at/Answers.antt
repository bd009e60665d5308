-- `trie_find_queue::put_at` meets its contract: the nodes from index i on are moved on by one, and x is stored there.
-- No loop, so no invariant.
use Prim.Native.Nat.{◌≤◌}
use mathlib.Core.Path.{◌≡◌}
use lib.ListN.{length}
use native.Mathlib.Omega.{arith}
use borrow.Author.Rules.{rules}
use Rattle.entries.specs.Completion.{max_count}
use Rattle.octets.proofs.Lists.{length_mapped}
use Rattle.trie_find_queue.proofs.Moves.{put_inside}
use Rattle.trie_find_queue.proofs.put_at.Goals as goal

pub returns-then-i-count : goal.returns-then-i-count
returns-then-i-count c =
    let long : length c.args.q.nodes ≡ max_count = search (rules, length_mapped) in
    let few : c.min-count.result ≤ length c.args.q.nodes =
    omega (arith, long, c.min-count.ensures, c.requires.1, c.requires.2)
    in
    record {
      waiting =
          rw c.copy_within.ensures.after
          (put_inside c.args.q.nodes c.args.i c.args.q.count c.args.most c.min-count.result c.args.x c.requires.0
          c.min-count.ensures c.if-i-count.true few);
      few = omega (arith, c.min-count.ensures);
    }

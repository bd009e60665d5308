-- `trie_find_queue::put` meets its contract: x is put at the place that is found for it.
-- No loop, so no invariant.
use mathlib.Core.Path.{◌∙◌, ◌≡◌, ap}
use lib.ListN.{length-take}
use native.Mathlib.Omega.{arith}
use Rattle.trie_find_queue.specs.Waits.{put_at, put_in_rank, waits}
use Rattle.trie_find_queue.proofs.Moves.{rank_most, put_rank}
use Rattle.trie_find_queue.proofs.put.Goals as goal

pub rank_among-i-requires : goal.rank_among-i-requires
rank_among-i-requires c = (c.requires.0, c.requires.1)

pub put_at-requires : goal.put_at-requires
put_at-requires c =
    let a = rank_most c.args.x (waits c.args.q) in
    let b = length-take c.args.q.count c.args.q.nodes in
    (omega (arith, a, b, c.rank_among-i.ensures), omega arith, omega arith)

pub returns : goal.returns
returns c =
    let ws = waits c.args.q in
    let place : put_at c.rank_among-i.result c.args.x ws ≡ put_in_rank c.args.x ws =
    ap (λ i. put_at i c.args.x ws) c.rank_among-i.ensures ∙ put_rank c.args.x ws
    in
    rw place at c.put_at.ensures

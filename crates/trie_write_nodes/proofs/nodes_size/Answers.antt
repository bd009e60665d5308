use native.Mathlib.Omega.{arith}
use Rattle.trie_write_nodes.proofs.Loops.{here_falls, here_short, sizing_end, sizing_start, sizing_turn}
use Rattle.trie_write_nodes.proofs.nodes_size.Goals as goal

pub loop-i-init : goal.loop-i-init
loop-i-init c = sizing_start c.requires.1

pub node_size-m-requires : goal.node_size-m-requires
node_size-m-requires c = (here_short c.requires.1 c.loop-i.invariant c.loop-i-test.true, c.loop-i.invariant.size)

pub overflow_add-sum : goal.overflow_add-sum
overflow_add-sum c = omega arith

pub next_after-f-requires : goal.next_after-f-requires
next_after-f-requires c = rw c.score_at-score.ensures (here_falls c.requires.1 c.loop-i.invariant c.loop-i-test.true)

pub loop-i-preserved : goal.loop-i-preserved
loop-i-preserved c =
    sizing_turn c.requires.1 c.loop-i.invariant c.loop-i-test.true c.node_size-m.ensures c.score_at-score.ensures
    c.next_after-f.ensures

pub returns : goal.returns
returns c = sizing_end c.requires.1 c.loop-i.invariant c.requires.0 c.loop-i-test.false

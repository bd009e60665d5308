use mathlib.Core.Path.{refl}
use native.Mathlib.Omega.{arith}
use Rattle.trie_write_nodes.proofs.Loops.{node_falls, node_fits, node_room, node_sound, putting_end}
use Rattle.trie_write_nodes.proofs.Loops.{putting_start, putting_turn}
use Rattle.trie_write_nodes.proofs.put_nodes.Goals as goal

pub loop-i-init : goal.loop-i-init
loop-i-init c = putting_start c.requires

pub node_size-m-requires : goal.node_size-m-requires
node_size-m-requires c =
    ((node_sound c.requires c.loop-i.invariant c.loop-i-test.true).short, c.loop-i.invariant.small)

pub put_node-requires : goal.put_node-requires
put_node-requires c = node_fits c.requires c.loop-i.invariant c.loop-i-test.true

pub overflow_add-at : goal.overflow_add-at
overflow_add-at c =
    omega (arith, node_room c.requires c.loop-i.invariant c.loop-i-test.true c.node_size-m.ensures.0, c.ranges)

pub next_after-f-requires : goal.next_after-f-requires
next_after-f-requires c = rw c.score_at-score.ensures (node_falls c.requires c.loop-i.invariant c.loop-i-test.true)

pub loop-i-preserved : goal.loop-i-preserved
loop-i-preserved c =
    putting_turn c.requires c.loop-i.invariant c.loop-i-test.true c.node_size-m.ensures.0 c.score_at-score.ensures
    c.next_after-f.ensures refl c.put_node.ensures

pub shape_of-dst : goal.shape_of-dst
shape_of-dst c = c.loop-i.invariant.long

pub returns : goal.returns
returns c = putting_end c.requires c.loop-i.invariant c.loop-i-test.false

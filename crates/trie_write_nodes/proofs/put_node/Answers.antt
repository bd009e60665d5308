-- `trie_write_nodes::put_node` meets its contract: the header, the two fields and the label, one store behind the
-- other. No loop, so no invariant.
use Prim.Native.Nat.{◌+◌, ◌≤◌}
use mathlib.Core.Path.{◌∙◌, ap}
use lib.ListN.{length, length-set}
use lib.Seq.{sets}
use native.Mathlib.Omega.{arith}
use Rattle.trie.proofs.Header.{size_of_most}
use Rattle.trie_write_runs.proofs.Fields.{child_size_le, node_length_lem}
use Rattle.trie_write_nodes.proofs.Bytes.{label_part, node_put}
use Rattle.trie_write_nodes.proofs.put_node.Goals as goal
use Rattle.trie_write_nodes.proofs.put_node.Goals.{After-child_part-child}

score_le : (c : After-child_part-child) → c.size_of-score.result ≤ 4
score_le c = rw c.size_of-score.ensures (size_of_most c.args.f.score)

child_le : (c : After-child_part-child) → c.child_part-child.result ≤ 4
child_le c = rw c.child_part-child.ensures (child_size_le c.args.r c.args.f c.requires.small)

-- the node ends within the destination
room :
    (c : After-child_part-child)
    → c.args.at + 1 + c.size_of-score.result + c.child_part-child.result + c.args.r.len ≤ length c.args.dst.now
room c =
    let l =
    node_length_lem c.args.r c.args.f c.requires.sound.short c.requires.small c.size_of-score.ensures
    c.child_part-child.ensures
    in
    omega (arith, c.requires.room, l.0)

pub header-requires : goal.header-requires
header-requires c =
    let w = (goal.at.header-requires c).After-child_part-child in
    (score_le w, child_le w, omega (arith, c.requires.sound.short))

pub bounds-dst-at : goal.bounds-dst-at
bounds-dst-at c = omega (arith, room (goal.at.bounds-dst-at c).After-child_part-child)

pub put_be-requires : goal.put_be-requires
put_be-requires c = score_le (goal.at.put_be-requires c).After-child_part-child

pub overflow_add-at-3 : goal.overflow_add-at-3
overflow_add-at-3 c = omega (arith, room (goal.at.overflow_add-at-3 c).After-child_part-child)

pub put_be-requires-2 : goal.put_be-requires-2
put_be-requires-2 c = child_le (goal.at.put_be-requires-2 c).After-child_part-child

pub overflow_add-at-5 : goal.overflow_add-at-5
overflow_add-at-5 c = omega (arith, room (goal.at.overflow_add-at-5 c).After-child_part-child)

pub overflow_add-at-6 : goal.overflow_add-at-6
overflow_add-at-6 c = omega (arith, room (goal.at.overflow_add-at-6 c).After-child_part-child)

pub shape_of-dst : goal.shape_of-dst
shape_of-dst c = c.copy.auto.dst ∙ c.put_be-2.auto.dst ∙ c.put_be.auto.dst ∙ simp length-set

pub returns : goal.returns
returns c =
    node_put c.args.names.now c.args.d c.args.r c.args.f c.args.last c.args.dst.now
    c.args.at
    c.size_of-score.ensures c.child_part-child.ensures c.child_part-value.ensures
    c.header.ensures
    c.put_be.ensures c.put_be-2.ensures (c.copy.ensures
    ∙ ap (sets _ _) (label_part c.args.names.now c.args.d c.args.r))

-- `trie_write_nodes::finish` meets its contract: measured without and with the child field that counts its own bytes,
-- then put. No loop, so no invariant.
use Prim.Native.Nat.{◌+◌, ◌≤◌}
use native.Mathlib.Omega.{arith}
use Rattle.trie_write_nodes.proofs.Loops.{all_fit, finish_not, finish_put, room_for}
use Rattle.trie_write_nodes.proofs.finish.Goals as goal
use Rattle.trie_write_nodes.proofs.finish.Goals.{else-to, then-to}

pub overflow_sub-to-then-to : goal.overflow_sub-to-then-to
overflow_sub-to-then-to c =
    let fits : c.args.to.back + c.nodes_size-full.result ≤ c.args.to.total =
    room_for c.requires.1 c.plain_fields.ensures c.nodes_size-other.ensures.0 c.first_fields-first.ensures
    c.nodes_size-full.ensures.0 c.if-to.true
    in
    omega (arith, fits)

pub put_nodes-requires : goal.put_nodes-requires
put_nodes-requires c =
    all_fit c.requires.1 c.plain_fields.ensures c.nodes_size-other.ensures.0 c.first_fields-first.ensures
    c.nodes_size-full.ensures.0 c.if-to.true

pub returns : goal.returns
returns c =
    elim c.if-to.branch [
      | then-to w ↦ rw w.dst-is
          (finish_put c.requires.1 c.plain_fields.ensures c.nodes_size-other.ensures.0 c.first_fields-first.ensures
          c.nodes_size-full.ensures.0 w.if-to.true w.put_nodes.ensures)
      | else-to w ↦ rw w.dst-is
          (finish_not c.requires.1 c.plain_fields.ensures c.nodes_size-other.ensures.0 c.first_fields-first.ensures
          c.nodes_size-full.ensures.0 w.if-to.false)
    ]

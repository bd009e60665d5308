use mathlib.Core.Path.{◌∙◌, ◌≡◌, ap, sym}
use mathlib.Core.Bool.{false}
use native.Mathlib.Omega.{arith}
use Rattle.trie_find_laws.specs.Places.{is_leaf_at}
use Rattle.trie_find_steps.specs.Steps.{child_index}
use Rattle.trie_find_turns.proofs.Standing.{child_at}
use Rattle.trie_find_turns.proofs.Turning.{child_there, following_on, following_ready}
use Rattle.trie_find_turns.proofs.Turning.{following_start, todo_ahead, todo_done}
use Rattle.trie_find_turns.proofs.follow.Goals as goal
use Rattle.trie_find_turns.proofs.follow.Goals.{In-loop-queue}

-- the node has children
inner : (c : In-loop-queue) → is_leaf_at c.args.trie.now c.loop-queue.node.at ≡ false
inner c = sym c.is_leaf.ensures ∙ c.loop-queue-test.true

pub loop-queue-init : goal.loop-queue-init
loop-queue-init c = following_start _ _ _ _ c.requires

pub is_leaf-requires : goal.is_leaf-requires
is_leaf-requires c = c.loop-queue.invariant.some.todo.is.node.inside

pub put_next-queue-requires : goal.put_next-queue-requires
put_next-queue-requires c = following_ready _ _ _ _ c.loop-queue.invariant.some

pub first_child-node-requires : goal.first_child-node-requires
first_child-node-requires c =
    let n = inner (goal.at.first_child-node-requires c).In-loop-queue in
    let d = c.loop-queue.invariant.some.todo in
    child_there c.args.trie.now c.loop-queue.node d.p d.l d.s d.kids
    d.next d.is n

pub loop-queue-smaller : goal.loop-queue-smaller
loop-queue-smaller c =
    let n = inner (goal.at.loop-queue-smaller c).In-loop-queue in
    let s = c.loop-queue.invariant.some in
    let bs = c.args.trie.now in
    let a = todo_ahead bs c.args.most c.loop-queue.node c.loop-queue.queue s.t n s.todo in
    let e : c.first_child-node.result.at ≡ child_index bs c.loop-queue.node = ap (λ x. x.at) c.first_child-node.ensures
    ∙ child_at bs c.loop-queue.node in
    omega (arith, a.0, a.1, e)

pub loop-queue-preserved : goal.loop-queue-preserved
loop-queue-preserved c =
    let n = inner (goal.at.loop-queue-preserved c).In-loop-queue in
    following_on c.args.trie.now c.args.most c.args.x c.args.q c.loop-queue.node c.loop-queue.queue
    c.put_next-queue.result c.loop-queue.invariant n
    c.put_next-queue.ensures c.first_child-node.result c.first_child-node.ensures

pub put_next-left-requires : goal.put_next-left-requires
put_next-left-requires c = following_ready _ _ _ _ c.loop-queue.invariant.some

pub returns : goal.returns
returns c =
    λ t d. todo_done c.args.trie.now c.args.most c.loop-queue.node c.loop-queue.queue c.put_next-left.result t
    (sym c.is_leaf.ensures
    ∙ c.loop-queue-test.false) c.put_next-left.ensures
    (c.loop-queue.invariant.keeps t d)

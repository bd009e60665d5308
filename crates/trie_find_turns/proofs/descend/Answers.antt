use mathlib.Core.Path.{◌∙◌, ◌≡◌, ap, sym}
use mathlib.Core.Bool.{false}
use native.Mathlib.Omega.{arith}
use Rattle.octets.specs.Octets.{begins}
use Rattle.trie_find_queue.specs.Waits.{path_of}
use Rattle.trie_find_turns.proofs.Leading.{heading_on, heading_start, nobody_reaches, toward_ahead}
use Rattle.trie_find_turns.proofs.Leading.{toward_here, toward_inside, toward_onward, toward_short, toward_stuck}
use Rattle.trie_find_turns.proofs.descend.Goals as goal
use Rattle.trie_find_turns.proofs.descend.Goals.{In-loop-node}

not_begun : (c : In-loop-node) → begins c.args.prefix.now (path_of c.loop-node.node) ≡ false
not_begun c = sym c.is_begun.ensures ∙ c.loop-node-test.true

pub loop-node-init : goal.loop-node-init
loop-node-init c = heading_start _ _ _ c.requires

pub is_begun-requires : goal.is_begun-requires
is_begun-requires c = let s = c.loop-node.invariant.some in toward_short _ _ _ s.ws s.toward

pub is_stuck-requires : goal.is_stuck-requires
is_stuck-requires c =
    let s = c.loop-node.invariant.some in
    (toward_inside _ _ _ s.ws s.toward, toward_short _ _ _ s.ws s.toward)

pub returns-then-is_stuck : goal.returns-then-is_stuck
returns-then-is_stuck c =
    let n = not_begun (goal.at.returns-then-is_stuck c).In-loop-node in
    let bs = c.args.trie.now in
    let p = c.args.prefix.now in
    λ ws d. nobody_reaches bs ws c.nobody.result
    (toward_stuck bs p c.loop-node.node ws (c.loop-node.invariant.keeps ws d) n
    (sym c.is_stuck.ensures ∙ c.if-is_stuck.true))
    c.nobody.ensures

pub next_on_way-node-requires : goal.next_on_way-node-requires
next_on_way-node-requires c =
    let s = c.loop-node.invariant.some in
    toward_onward _ _ _ s.ws s.toward (sym c.is_stuck.ensures ∙ c.if-is_stuck.false)

pub loop-node-smaller : goal.loop-node-smaller
loop-node-smaller c =
    let s = c.loop-node.invariant.some in
    let a = toward_ahead c.args.trie.now c.args.prefix.now c.loop-node.node s.ws s.toward
    (sym c.is_stuck.ensures ∙ c.if-is_stuck.false) in
    let e = ap (λ x. x.at) c.next_on_way-node.ensures in
    omega (arith, a.0, a.1, e)

pub loop-node-preserved : goal.loop-node-preserved
loop-node-preserved c =
    let n = not_begun (goal.at.loop-node-preserved c).In-loop-node in
    heading_on c.args.trie.now c.args.prefix.now c.args.x c.loop-node.node c.loop-node.invariant
    n (sym c.is_stuck.ensures ∙ c.if-is_stuck.false)
    c.next_on_way-node.result c.next_on_way-node.ensures

pub returns : goal.returns
returns c =
    λ ws d. toward_here c.args.trie.now c.args.prefix.now c.loop-node.node ws (c.loop-node.invariant.keeps ws d)
    (sym c.is_begun.ensures
    ∙ c.loop-node-test.false) c.only.result c.only.ensures.0
    c.only.ensures.1

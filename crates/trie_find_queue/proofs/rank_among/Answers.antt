use mathlib.Core.Path.{◌∙◌, ◌≡◌, sym}
use lib.ListN.{length, length-take}
use native.Mathlib.Omega.{arith}
use borrow.Author.Rules.{rules}
use Rattle.entries.specs.Completion.{max_count}
use Rattle.octets.proofs.Lists.{get_in, length_mapped}
use Rattle.trie_find_queue.specs.Waits.{nowhere, waits}
use Rattle.trie_find_queue.proofs.Moves.{placing_end, placing_found, placing_on}
use Rattle.trie_find_queue.proofs.rank_among.Goals as goal

pub loop-i-init : goal.loop-i-init
loop-i-init c = record { rest = omega arith }

pub node_outranks-requires : goal.node_outranks-requires
node_outranks-requires c =
    (c.requires.0.short _ (get_in nowhere (waits c.args.q) c.loop-i.i c.loop-i-test.true), c.requires.1)

pub returns-then-not-node_outranks : goal.returns-then-not-node_outranks
returns-then-not-node_outranks c =
    placing_found c.args.x (waits c.args.q) c.loop-i.i c.loop-i.invariant c.loop-i-test.true
    (sym c.node_outranks.ensures ∙ c.if-not-node_outranks.true)

pub loop-i-preserved : goal.loop-i-preserved
loop-i-preserved c =
    placing_on c.args.x (waits c.args.q) c.loop-i.i c.loop-i.invariant c.loop-i-test.true
    (sym c.node_outranks.ensures ∙ c.if-not-node_outranks.false)

pub returns : goal.returns
returns c =
    let long : length c.args.q.nodes ≡ max_count = search (rules, length_mapped) in
    let all : c.args.q.count ≡ c.loop-i.i =
    omega (arith, long, c.requires.0.few, length-take c.args.q.count c.args.q.nodes)
    in
    all ∙ placing_end c.args.x (waits c.args.q) c.loop-i.i c.loop-i.invariant c.loop-i-test.false

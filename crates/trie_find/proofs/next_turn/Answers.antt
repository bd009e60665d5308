-- `trie_find::next_turn` meets its contract: a turn from the first node, with the others that wait.
-- No loop, so no invariant.
use Prim.Native.Nat.{◌≤◌}
use mathlib.Core.Path.{◌≡◌}
use mathlib.Core.List.{◌∷◌}
use lib.ListN.{drop, get_or, length}
use native.Mathlib.Omega.{arith}
use borrow.Author.Rules.{rules}
use Rattle.entries.specs.Completion.{max_count}
use Rattle.trie_find_queue.specs.Waits.{nowhere, waits}
use Rattle.octets.proofs.Lists.{length_mapped}
use Rattle.trie_find.proofs.Offering.{first_and_rest, some_todo, turn_gives}
use Rattle.trie_find.proofs.next_turn.Goals as goal
use Rattle.trie_find.proofs.next_turn.Goals.{After-rest-others}

-- the node that is taken, and the others
split :
    (c : After-rest-others)
    → waits c.args.q ≡ get_or c.args.q.nodes 0 nowhere ∷ drop 1 (waits c.args.q)
split c =
    let long : length c.args.q.nodes ≡ max_count = search (rules, length_mapped) in
    first_and_rest c.args.q long c.requires.some (omega (arith, c.requires.few, c.requires.most_few))

few_others : (c : After-rest-others) → c.rest-others.result.count ≤ c.args.most
few_others c = omega (arith, c.rest-others.ensures.1, c.requires.few)

pub follow-requires : goal.follow-requires
follow-requires c =
    let w = (goal.at.follow-requires c).After-rest-others in
    some_todo c.args.trie.now c.args.most (get_or c.args.q.nodes 0 nowhere) c.args.q c.rest-others.result (split w)
    c.rest-others.ensures.0 (few_others w) c.requires.ws c.requires.all (omega (arith, c.requires.most_few))

pub returns : goal.returns
returns c =
    let w = (goal.at.returns c).After-rest-others in
    λ ws a. turn_gives c.args.trie.now c.args.most (get_or c.args.q.nodes 0 nowhere) c.args.q c.rest-others.result
    (split w) c.rest-others.ensures.0 (few_others w) ws a c.follow.result c.follow.ensures

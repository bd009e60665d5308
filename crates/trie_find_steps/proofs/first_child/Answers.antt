-- `trie_find_steps::first_child` meets its contract: the node where the child field leads, behind the node's own path.
-- No loop, so no invariant.
use mathlib.Core.Path.{◌∙◌, refl}
use Rattle.trie_find_steps.proofs.Fields.{arrive_same}
use Rattle.trie_find_steps.proofs.first_child.Goals as goal

pub arrive-requires : goal.arrive-requires
arrive-requires c = rw (← c.children_at-at.ensures) at c.requires.child

pub returns : goal.returns
returns c =
    let x = c.args.x in
    let e = c.children_at-at.ensures in
    c.arrive.ensures ∙ arrive_same c.args.trie.now x.path x.len x.len x.score x.score _ _ _ _
    refl refl e e

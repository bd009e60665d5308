-- `trie_find_steps::from_behind` meets its contract: a leaf changes nothing, else the first child counts.
-- No loop, so no invariant.
use mathlib.Core.Path.{◌∙◌, sym}
use Rattle.trie_find_steps.proofs.Fields.{from_inner, from_leaf}
use Rattle.trie_find_steps.proofs.from_behind.Goals as goal

pub returns-then-is_leaf : goal.returns-then-is_leaf
returns-then-is_leaf c =
    sym (from_leaf c.args.trie.now c.args.at c.args.from (sym c.is_leaf.ensures
    ∙ c.if-is_leaf.true))

pub children_at-requires : goal.children_at-requires
children_at-requires c = (c.requires.0, c.requires.1 (sym c.is_leaf.ensures ∙ c.if-is_leaf.false))

pub returns : goal.returns
returns c =
    c.children_at.ensures ∙ sym (from_inner c.args.trie.now c.args.at c.args.from
    (sym c.is_leaf.ensures ∙ c.if-is_leaf.false))

-- `trie_find_turns::next_on_way` meets its contract: the first child where the way goes down, else the next sibling.
-- No loop, so no invariant.
use mathlib.Core.Path.{◌∙◌, sym}
use Rattle.trie_find_turns.proofs.next_on_way.Goals as goal

pub first_child-requires : goal.first_child-requires
first_child-requires c =
    c.requires.down (sym c.goes_down.ensures
    ∙ c.if-goes_down.true)

pub returns-then-goes_down : goal.returns-then-goes_down
returns-then-goes_down c = rw (sym c.goes_down.ensures ∙ c.if-goes_down.true) c.first_child.ensures

pub next_sibling-requires : goal.next_sibling-requires
next_sibling-requires c =
    c.requires.aside (sym c.goes_down.ensures
    ∙ c.if-goes_down.false)

pub returns : goal.returns
returns c = rw (sym c.goes_down.ensures ∙ c.if-goes_down.false) c.next_sibling.ensures

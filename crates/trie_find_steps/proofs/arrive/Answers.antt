-- `trie_find_steps::arrive` meets its contract: the label is copied behind the path, and the header says its length and
-- the mark. No loop, so no invariant.
use mathlib.Core.Path.{◌∙◌, ap}
use lib.Seq.{sets}
use Rattle.trie_find_steps.proofs.Fields.{arrive_is}
use Rattle.trie_find_steps.proofs.arrive.Goals as goal

pub returns : goal.returns
returns c =
    let a = c.args in
    let own = c.label_at-own.ensures in
    arrive_is a.trie.now a.path _ a.len _ a.score a.at a.from _
    (c.copy.ensures ∙ ap (sets a.path a.len) own)
    c.label_length.ensures
    c.last_mark.ensures

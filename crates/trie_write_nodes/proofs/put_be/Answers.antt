-- `trie_write_nodes::put_be` meets its contract: the last k of the number's bytes are stored.
-- No loop, so no invariant.
use mathlib.Core.Path.{◌∙◌, ap}
use lib.Seq.{sets}
use Rattle.trie_write_nodes.proofs.Bytes.{be_taken}
use Rattle.trie_write_nodes.proofs.put_be.Goals as goal

pub returns : goal.returns
returns c = c.copy.ensures ∙ ap (sets _ _) (be_taken c.args.k c.args.v c.requires c.to_be_bytes.ensures)

-- `trie_header::child_size` meets its contract: a shift by 4 divides by 16, and the mask 3 keeps the rest by 4.
-- No loop, so no invariant.
use Prim.Native.Nat.{◌/◌}
use mathlib.Core.Path.{◌∙◌, ap}
use lib.Bits.{and_mask}
use Rattle.trie.specs.Reading.{child_size, size_at}
use Rattle.trie_header.proofs.child_size.Goals as goal

pub returns : goal.returns
unfolding child_size
returns c = c.size_at.ensures ∙ ap size_at (and_mask (c.args.h / 16) 2)

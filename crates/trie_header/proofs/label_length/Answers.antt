-- `trie_header::label_length` meets its contract: the mask 7 keeps the rest by 8.
-- No loop, so no invariant.
use lib.Bits.{and_mask, mask_lt}
use native.Mathlib.Omega.{arith}
use Rattle.trie.specs.Reading.{label_length}
use Rattle.trie_header.proofs.label_length.Goals as goal

pub overflow_cast-result : goal.overflow_cast-result
overflow_cast-result c = omega (arith, mask_lt c.args.h 3)

pub returns : goal.returns
unfolding label_length
returns c = and_mask c.args.h 3

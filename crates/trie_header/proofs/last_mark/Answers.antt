-- `trie_header::last_mark` meets its contract: a shift by 3 divides by 8, and the mask 1 keeps the rest by 2.
-- No loop, so no invariant.
use Prim.Native.Nat.{◌/◌, ℕ}
use mathlib.Core.Path.{ap}
use lib.Bits.{and_mask}
use lib.Dec.{eqb}
use Rattle.trie.specs.Reading.{last_mark}
use Rattle.trie_header.proofs.last_mark.Goals as goal

pub returns : goal.returns
unfolding last_mark
returns c = ap (λ (k : ℕ). eqb k 1) (and_mask (c.args.h / 8) 1)

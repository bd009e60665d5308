-- `trie_write::lone` meets its contract: a group of one node in front of what stands under it.
-- The recursion's measure is the bytes left of a name's 48.
use Rattle.std.proofs.Common.{◌-◌}
use Rattle.entries.specs.Names.{longest_name}
use Rattle.trie_write.proofs.+lone.Given as goal

abbrev pub decreases-lone : goal.decreases-lone
decreases-lone l = longest_name - l.d

-- `trie_check_fields::half_behind` meets its contract. No loop.
use mathlib.Core.Path.{◌∙◌, ap}
use native.Mathlib.Omega.{arith}
use Rattle.entries_laws.proofs.Halves.{behind_numbered}
use Rattle.entries_laws.specs.Halves.{half_behind}
use Rattle.trie_check_fields.proofs.half_behind.Goals as goal

pub overflow_sub-n : goal.overflow_sub-n
overflow_sub-n c = c.requires.0

pub label_part-label-requires : goal.label_part-label-requires
label_part-label-requires c = omega (arith, c.requires.0, c.requires.1)

pub returns : goal.returns
returns c =
    behind_numbered c.args.half c.label_part-label.result.now c.half_after.ensures
    ∙ ap (half_behind c.args.half) c.label_part-label.ensures

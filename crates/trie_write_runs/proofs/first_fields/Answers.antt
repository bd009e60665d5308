-- `trie_write_runs::first_fields` meets its contract: the field's own size, and the others' bytes with its own.
-- No loop, so no invariant.
use native.Mathlib.Omega.{arith}
use Rattle.trie.proofs.Header.{own_size_most}
use Rattle.trie_write_runs.proofs.first_fields.Goals as goal

pub overflow_add-result : goal.overflow_add-result
overflow_add-result c =
    omega (arith, c.own_size-own.ensures, own_size_most c.args.other, c.requires)

pub returns : goal.returns
returns c = rw c.own_size-own.ensures

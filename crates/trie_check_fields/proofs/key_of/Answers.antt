-- `trie_check_fields::key_of` meets its contract, by the two cases of `key`.
-- No loop, so no invariant.
use native.Mathlib.Omega.{arith}
use Rattle.trie_check_fields.proofs.Fields.{key-none, key-some}
use Rattle.trie_check_fields.proofs.key_of.Goals as goal

pub returns-then-label-eq0 : goal.returns-then-label-eq0
returns-then-label-eq0 c = key-none c.args.label.now c.if-label-eq0.true

pub overflow_cast-result : goal.overflow_cast-result
overflow_cast-result c = omega (arith, c.shared_slice_known-1.given 0)

pub overflow_add-result : goal.overflow_add-result
overflow_add-result c = omega (arith, c.shared_slice_known-1.given 0)

pub returns : goal.returns
returns c = key-some c.args.label.now c.if-label-eq0.false

-- `trie_write_runs::node_size` meets its contract: the sum of the sizes of a node's parts.
-- No loop, so no invariant.
use native.Mathlib.Omega.{arith}
use Rattle.trie.proofs.Header.{size_of_most}
use Rattle.trie_write_runs.proofs.Fields.{child_size_le, node_length_lem}
use Rattle.trie_write_runs.proofs.node_size.Goals as goal

pub overflow_add-result : goal.overflow_add-result
overflow_add-result c = omega (arith, size_of_most c.args.f.score, c.size_of-score.ensures)

pub overflow_add-result-2 : goal.overflow_add-result-2
overflow_add-result-2 c =
    omega (
      arith,
      size_of_most c.args.f.score,
      c.size_of-score.ensures,
      child_size_le c.args.r c.args.f c.requires.1,
      c.child_part-child.ensures,
    )

pub overflow_add-result-3 : goal.overflow_add-result-3
overflow_add-result-3 c =
    omega (
      arith,
      (node_length_lem c.args.r c.args.f c.requires.0 c.requires.1 c.size_of-score.ensures
          c.child_part-child.ensures).1,
    )

pub returns : goal.returns
returns c =
    node_length_lem c.args.r c.args.f c.requires.0 c.requires.1 c.size_of-score.ensures
    c.child_part-child.ensures

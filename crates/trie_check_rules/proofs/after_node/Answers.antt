-- `trie_check_rules::after_node` meets its contract, field by field. No loop, so no invariant.
use mathlib.Core.Bool.{false}
use Rattle.trie_check_rules.proofs.after_node.Goals as goal

pub returns : goal.returns
returns c =
    let a = c.args in
    λ i.
    record {
      at = a.n.end;
      next = a.next;
      back = a.back;
      own = a.own;
      first = false;
      score = c.new_score.ensures i;
      key = a.n.key;
      path = a.p.path;
      half = a.p.half;
      full = a.p.full;
      left = a.left;
    }

-- `trie_check_fields::head_at` meets its contract: each return gives the test that failed, or all that was read, to the
-- law of the answer (proofs/Heads). No loop, so no invariant.
use native.Mathlib.Omega.{arith}
use Rattle.octets.proofs.Numbers.{Bytes}
use Rattle.trie_check_fields.proofs.Heads.{Sizes, child_size_lem, head_good, head_known, head_out}
use Rattle.trie_check_fields.proofs.Heads.{head_short, head_wide, label_size, score_size_lem}
use Rattle.trie_check_fields.proofs.head_at.Goals as goal
use Rattle.trie_check_fields.proofs.head_at.Goals.{After-label_length-len}

-- the header at the index, and its sizes
sizes : (c : After-label_length-len)
    → Sizes c.args.buf.now c.args.at c.score_size-score_size.result c.child_size-child_size.result
    c.label_length-len.result
sizes c =
    record {
      inside = c.if-buf-at.false;
      is_score = c.score_size-score_size.ensures;
      is_child = c.child_size-child_size.ensures;
      is_label = c.label_length-len.ensures;
    }

bytes : (c : After-label_length-len) → Bytes c.args.buf.now
bytes c = λ i. (omega (arith, c.shared_slice_known-1.given i))

pub returns-then-buf-at : goal.returns-then-buf-at
returns-then-buf-at c =
    let a = c.args in record {
      is = head_out a.buf.now a.at c.if-buf-at.true;
      known = tt;
    }

pub overflow_add-body : goal.overflow_add-body
overflow_add-body c =
    let w = (goal.at.overflow_add-body c).After-label_length-len in
    omega (arith, score_size_lem (sizes w) (bytes w), child_size_lem (sizes w))

pub overflow_add-body-2 : goal.overflow_add-body-2
overflow_add-body-2 c =
    let w = (goal.at.overflow_add-body-2 c).After-label_length-len in
    omega (arith, score_size_lem (sizes w) (bytes w), child_size_lem (sizes w), label_size (sizes w))

pub returns-then-buf-at-2 : goal.returns-then-buf-at-2
returns-then-buf-at-2 c =
    let w = (goal.at.returns-then-buf-at-2 c).After-label_length-len in
    record {
      is = head_short (sizes w) c.if-buf-at-2.true;
      known = tt;
    }

pub field_at-field-requires : goal.field_at-field-requires
field_at-field-requires c =
    let w = (goal.at.field_at-field-requires c).After-label_length-len in
    let s = score_size_lem (sizes w) (bytes w) in
    (omega arith, s.0, s.1)

pub returns-then-size_of-score_size : goal.returns-then-size_of-score_size
returns-then-size_of-score_size c =
    let w = (goal.at.returns-then-size_of-score_size c).After-label_length-len in
    record {
      is = head_wide (sizes w) c.if-buf-at-2.false c.field_at-field.ensures
          c.size_of.ensures c.if-size_of-score_size.true;
      known = tt;
    }

pub field_at-child-requires : goal.field_at-child-requires
field_at-child-requires c =
    let w = (goal.at.field_at-child-requires c).After-label_length-len in
    let s = child_size_lem (sizes w) in (omega arith, s.0, s.1)

pub returns : goal.returns
returns c =
    let w = (goal.at.returns c).After-label_length-len in
    let good =
    head_good (sizes w) c.if-buf-at-2.false c.field_at-field.ensures c.size_of.ensures
    c.if-size_of-score_size.false c.label_part-label.ensures c.last_mark.ensures
    c.field_at-child.ensures c.key_of.ensures
    in
    record {
      is = good;
      known = head_known c.args.buf.now c.args.at (bytes w) _ good;
    }

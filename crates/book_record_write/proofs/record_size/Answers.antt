-- `book_record_write::record_size` meets its contract, by the lengths of the two forms of a record.
-- No loop, so no invariant.
use mathlib.Core.Path.{◌∙◌, ap, sym}
use lib.ListN.{length}
use native.Mathlib.Omega.{arith}
use Rattle.octets.proofs.Coding.{common_le}
use Rattle.book_record_write.proofs.Writing.{record_head, record_tail, tail_length}
use Rattle.book_record_write.proofs.record_size.Goals as goal

pub overflow_sub-result : goal.overflow_sub-result
overflow_sub-result c =
    let a = c.args in
    omega (arith, c.common_prefix.ensures, common_le a.prev.now a.name.now)

pub returns-then-is_head : goal.returns-then-is_head
returns-then-is_head c =
    let a = c.args in
    let q = record_head a.heads a.index a.prev.now a.name.now (sym c.is_head.ensures
    ∙ c.if-is_head.true) in
    record { long = omega (arith, ap length q); small = omega arith }

pub returns-else-is_head : goal.returns-else-is_head
returns-else-is_head c =
    let a = c.args in
    let q = record_tail a.heads a.index a.prev.now a.name.now (sym c.is_head.ensures
    ∙ c.if-is_head.false) in
    record {
      long = omega (arith, ap length q, tail_length a.prev.now a.name.now, c.common_prefix.ensures);
      small = omega arith;
    }

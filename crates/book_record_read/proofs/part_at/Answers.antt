-- `book_record_read::part_at` meets its contract: the tests of a head, or of another record, are those of `record_is`.
-- No loop, so no invariant.
use mathlib.Core.Path.{◌∙◌, sym}
use Rattle.book_record_read.proofs.RecordParts.{head_part_lem, tail_part_lem}
use Rattle.book_record_read.proofs.part_at.Goals as goal

pub returns-then-is_head : goal.returns-then-is_head
returns-then-is_head c =
    let a = c.args in
    c.head_part.ensures
    ∙ head_part_lem a.heads a.index a.prev.now a.s.now (sym c.is_head.ensures ∙ c.if-is_head.true)

pub returns-else-is_head : goal.returns-else-is_head
returns-else-is_head c =
    let a = c.args in
    c.tail_part.ensures
    ∙ tail_part_lem a.heads a.index a.prev.now a.s.now (sym c.is_head.ensures
    ∙ c.if-is_head.false) c.requires

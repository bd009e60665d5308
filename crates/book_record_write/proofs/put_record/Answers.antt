-- `book_record_write::put_record` meets its contract: a record is written in the form that its position asks for.
-- No loop, so no invariant.
use mathlib.Core.Path.{◌∙◌, ◌≡◌, sym}
use Rattle.book.specs.Records.{record_of}
use Rattle.book_record_write.specs.Written.{head_record, tail_record}
use Rattle.book_record_write.proofs.Writing.{record_head, record_tail}
use Rattle.book_record_write.proofs.put_record.Goals as goal
use Rattle.book_record_write.proofs.put_record.Goals.{Else-is_head, Then-is_head}

headed_as :
    (c : Then-is_head) → let a = c.args in
    record_of a.heads a.index a.prev.now a.name.now ≡ head_record a.name.now
headed_as c =
    let a = c.args in
    record_head a.heads a.index a.prev.now a.name.now (sym c.is_head.ensures ∙ c.if-is_head.true)

tailed_as :
    (c : Else-is_head) → let a = c.args in
    record_of a.heads a.index a.prev.now a.name.now ≡ tail_record a.prev.now a.name.now
tailed_as c =
    let a = c.args in
    record_tail a.heads a.index a.prev.now a.name.now (sym c.is_head.ensures ∙ c.if-is_head.false)

pub put_head-requires : goal.put_head-requires
put_head-requires c =
    let headed = headed_as (goal.at.put_head-requires c).Then-is_head in
    rw headed at c.requires

pub put_tail-requires : goal.put_tail-requires
put_tail-requires c =
    let tailed = tailed_as (goal.at.put_tail-requires c).Else-is_head in
    rw tailed at c.requires

pub returns-then-is_head : goal.returns-then-is_head
returns-then-is_head c =
    let headed = headed_as (goal.at.returns-then-is_head c).Then-is_head in
    rw headed c.put_head.ensures

pub returns-else-is_head : goal.returns-else-is_head
returns-else-is_head c =
    let tailed = tailed_as (goal.at.returns-else-is_head c).Else-is_head in
    rw tailed c.put_tail.ensures

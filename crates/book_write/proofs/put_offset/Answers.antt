-- `book_write::put_offset` meets its contract: a head's offset is stored, at another position nothing.
-- No loop.
use Rattle.book_write.specs.Writing.{put_offset}
use Rattle.book_write.proofs.put_offset.Goals as goal

pub returns-then-not-is_head : goal.returns-then-not-is_head
unfolding put_offset
returns-then-not-is_head c = simp (← c.is_head.ensures, c.if-not-is_head.true)

pub returns : goal.returns
unfolding put_offset
returns c =
    rw (← c.is_head.ensures, c.if-not-is_head.false, ← c.offset_start.ensures) c.write_u16.ensures

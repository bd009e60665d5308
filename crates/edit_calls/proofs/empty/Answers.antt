-- `edit_calls::empty` meets its contract: refused below 7 bytes, else the book of no entries stands at the front.
-- No loop, so no invariant.
use Rattle.edit_calls.proofs.Nothing.{nothing-refused, nothing_written}
use Rattle.edit_calls.proofs.empty.Goals as goal

pub returns-then-dst-lt-FRAME_LENGTH : goal.returns-then-dst-lt-FRAME_LENGTH
returns-then-dst-lt-FRAME_LENGTH c = nothing-refused _ c.if-dst-lt-FRAME_LENGTH.true

pub returns : goal.returns
returns c =
    nothing_written _ _ c.if-dst-lt-FRAME_LENGTH.false
    (rw c.today.ensures at c.finish.ensures)

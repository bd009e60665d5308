-- The companion's answer is told, and where the name begins.
use Rattle.std.proofs.Common.{sym}
use Rattle.label_book_c.proofs.HeadStart.{is_there_lem, told_part, told_refused}
use Rattle.label_book_c.proofs.label_book_head.Goals as goal

pub head_start-requires : goal.head_start-requires
head_start-requires c = (is_there_lem _ _ _ (sym c.in-Ok.ensures)).0

pub returns-in-Err : goal.returns-in-Err
returns-in-Err c = rw c.from.ensures (told_refused _ _ _ (sym c.in-Err.ensures))

pub returns-in-Ok : goal.returns-in-Ok
returns-in-Ok c = rw c.head_start.ensures (told_part _ _ _ (sym c.in-Ok.ensures))

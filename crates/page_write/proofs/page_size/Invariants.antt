-- `page_write::page_size` meets its contract. The loop's invariant: the lines counted, and those of the names left, are
-- all of them.
use Rattle.page_write.proofs.Writing.{Counting}
use Rattle.page_write.proofs.page_size.Given as goal

abbrev pub invariant-loop-len : goal.invariant-loop-len
invariant-loop-len l = Counting l.lens l.lines l.len-index

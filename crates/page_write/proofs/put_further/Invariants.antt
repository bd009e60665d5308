-- `page_write::put_further` meets its contract. The loop's invariant: the lines of what is left of the name, written
-- now, give all further lines.
use Rattle.std.proofs.Common.{◌≡◌}
use Rattle.std.specs.Slice.Iter.{chunks_rest, chunks_size}
use Rattle.page.specs.Page.{name_columns}
use Rattle.page_write.proofs.Writing.{Going}
use Rattle.page_write.proofs.put_further.Given as goal

abbrev pub invariant-loop-part : goal.invariant-loop-part
invariant-loop-part l =
    Going l.rest l.initial.dst l.dst (chunks_rest l.part-iterator) l.at l.end
    × (chunks_size l.part-iterator ≡ name_columns)

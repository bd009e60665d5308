-- `page_write::put_page` meets its contract. The loop's invariant: the lines of the rows left, in rank, written now,
-- give the page.
use Rattle.book_table.specs.Table.{entries}
use Rattle.page_write.proofs.Paging.{Paging}
use Rattle.page_write.proofs.put_page.Given as goal

abbrev pub invariant-loop-ranked : goal.invariant-loop-ranked
invariant-loop-ranked l = Paging (entries l.names l.lens l.scores) l.initial.dst l.dst l.at l.ranked-index

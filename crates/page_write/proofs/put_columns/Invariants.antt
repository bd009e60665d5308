-- `page_write::put_columns` meets its contract. The loop's invariant: the columns put in, and those left, are all of
-- them.
use mathlib.Core.Path.{◌≡◌}
use mathlib.Core.List.{◌++◌}
use lib.ListN.{drop, length, take}
use Rattle.page.specs.Page.{padded, page_columns}
use Rattle.page_write.proofs.put_columns.Given as goal

abbrev pub invariant-loop-j : goal.invariant-loop-j
invariant-loop-j l =
    (length l.line ≡ page_columns)
    × (take l.j l.line ++ drop l.j (padded page_columns (take l.n l.row)) ≡ padded page_columns (take l.n l.row))

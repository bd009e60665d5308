-- `page_write::write_ranked` meets its contract: the rows sorted into rank, and the page written.
-- No loop, so no invariant.
use Prim.Native.Nat.{ℕ}
use mathlib.Core.Path.{sym}
use lib.ListN.{length-replicate}
use native.Mathlib.Omega.{arith}
use Rattle.entries.proofs.Valid.{valid_of}
use Rattle.entries_sort.proofs.Rank.{ranked}
use Rattle.book_table.specs.Table.{entries}
use Rattle.book_table.proofs.Rows.{entries-length}
use Rattle.page_write.proofs.Paging.{table-scores}
use Rattle.page_write.proofs.write_ranked.Goals as goal

pub sort_first-requires : goal.sort_first-requires
sort_first-requires g c =
    let r = length-replicate {A = ℕ} g.row.ROWS 0 in
    (omega (arith, r, c.requires.1), omega (arith, r, c.requires.1), c.requires.0.table.few)

pub put_page-requires : goal.put_page-requires
put_page-requires g c =
    let es = entries c.args.names.now c.args.lens.now c.args.scores.now in (
      c.requires.0.table,
      ranked es (valid_of es c.requires.0.ok).order c.args.scores.now
          (sym (entries-length c.args.names.now c.args.lens.now c.args.scores.now))
          (table-scores c.args.names.now c.args.lens.now c.args.scores.now) _ c.sort_first.ensures,
      omega (arith, length-replicate {A = ℕ} g.row.ROWS 0, c.requires.1, c.sort_first.auto.order),
      c.requires.0.room,
    )

-- `panel_rows::first_row` meets its contract: the matches lie between the text's two places, five of them at most are
-- offered, and the best of them first (proofs/Rows).
use mathlib.Core.Path.{refl}
use Rattle.entries.proofs.Valid.{valid_of}
use Rattle.book_seek.proofs.Found.{seeking_past, seeking_place}
use Rattle.completion_book.proofs.Answering.{sought_most}
use Rattle.panel.specs.Panel.{typed_in}
use Rattle.panel_rows.proofs.Rows.{first_none, first_some}
use Rattle.panel_rows.proofs.first_row.Goals as goal

pub returns-then-end-first : goal.returns-then-end-first
returns-then-end-first c =
    let es = c.args.book.now in
    let found = c.seek-found.ensures in
    (first_none es (typed_in c.args.p) (seeking_place es found) (seeking_past es found) c.if-end-first.true, refl)

pub open_range-all-requires : goal.open_range-all-requires
open_range-all-requires c = (c.if-end-first.false, sought_most c.args.book.now c.seek-found.ensures)

pub returns : goal.returns
returns c =
    let es = c.args.book.now in
    let found = c.seek-found.ensures in (
      first_some es (typed_in c.args.p) (seeking_place es found) (seeking_past es found)
          (valid_of es c.len.ensures.ok).order c.if-end-first.false c.open_range-all.ensures c.min.ensures,
      refl,
    )

-- `panel_rows::held_row` meets its contract: the row of the name's position, if it is one of those offered
-- (proofs/Rows).
use mathlib.Core.Path.{◌∙◌, ap}
use borrow.Author.Tests.{not-false, not-true}
use Rattle.panel.specs.Panel.{held_in, typed_in}
use Rattle.panel_rows.specs.Rows.{row_of}
use Rattle.panel_rows.proofs.Rows.{row_absent, row_or}
use Rattle.panel_rows.proofs.held_row.Goals as goal

pub returns-then-not-found : goal.returns-then-not-found
returns-then-not-found c =
    row_absent (held_in c.args.p) _ (typed_in c.args.p) c.args.other c.requires.0 c.seek-found.ensures
    (not-true _ c.if-not-found.true)

pub returns : goal.returns
returns c =
    row_or (held_in c.args.p) _ (typed_in c.args.p) c.args.other c.requires.0 c.seek-found.ensures
    (not-false _ c.if-not-found.false) (c.row_of.ensures ∙ ap (row_of c.seek-found.result.place) c.so_far.ensures)
    c.unwrap_or.ensures

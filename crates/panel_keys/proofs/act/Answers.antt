-- `panel_keys::act` meets its contract: a key that changes the text, one that takes a name, and those that move the
-- highlight, or do nothing, from the row with the held name (proofs/Acts).
use mathlib.Core.Path.{◌∙◌, ◌≡◌, ap, sym}
use lib.ListN.{length}
use native.Mathlib.Omega.{arith}
use borrow.Author.Rules.{rules}
use Rattle.entries.specs.Completion.{max_count}
use Rattle.entries.specs.Names.{longest_name}
use Rattle.panel.specs.Panel.{highlighted, panel_of, typed_in, typing}
use Rattle.panel_typing.proofs.Text.{typed_length}
use Rattle.panel_typing.specs.Typing.{moved_row}
use Rattle.panel_rows.proofs.Rows.{on_row_of}
use Rattle.panel_keys.proofs.Acts as acts
use Rattle.panel_keys.proofs.act.Goals as goal
use Rattle.panel_keys.proofs.act.Goals.{After-held_row-row}

pub change_text-requires : goal.change_text-requires
change_text-requires c =
    (sym c.changes_text.ensures ∙ c.if-changes_text.true, c.requires.0.room, c.requires.0.short)

pub show_first-requires : goal.show_first-requires
show_first-requires c = c.change_text.ensures.short

pub returns-then-changes_text : goal.returns-then-changes_text
returns-then-changes_text c =
    let long : length c.args.p.text ≡ longest_name = search rules in
    let typed = typed_length c.args.p long c.requires.0.short in
    let es = c.args.book.now in
    c.show_first.ensures ∙ ap (λ w. panel_of es (typing w 0)) c.change_text.ensures.holds
    ∙ acts.changed es c.args.p c.args.key typed (sym c.changes_text.ensures ∙ c.if-changes_text.true)

pub rows_of-rows-requires : goal.rows_of-rows-requires
rows_of-rows-requires c = record { key = typed_in c.args.p; located = c.requires.1 }

pub held_row-row-requires : goal.held_row-row-requires
held_row-row-requires c = (c.rows_of-rows.ensures (typed_in c.args.p) c.requires.1, c.requires.0.held_short)

-- once the row with the held name was looked for
rows :
    (c : After-held_row-row)
    → acts.OnRows c.args.book.now c.args.p c.args.key c.rows_of-rows.result c.held_row-row.result
rows c =
    acts.on_rows c.args.book.now c.args.p c.args.key
    (c.rows_of-rows.ensures (typed_in c.args.p) c.requires.1) c.lower-lowered.ensures c.held_row-row.ensures

pub row_at-requires : goal.row_at-requires
row_at-requires c =
    let r = rows (goal.at.row_at-requires c).After-held_row-row in
    omega (arith, r.on, c.lower-lowered.ensures, r.rows.few)

pub take_name-taken-requires : goal.take_name-taken-requires
take_name-taken-requires c =
    let r = rows (goal.at.take_name-taken-requires c).After-held_row-row in
    let places : length c.rows_of-rows.result.offered ≡ max_count = search rules in
    on_row_of _ (typed_in c.args.p) c.rows_of-rows.result r.rows places _
    (omega (arith, r.on, c.lower-lowered.ensures)) c.row_at.ensures

pub show_first-requires-then-takes : goal.show_first-requires-then-takes
show_first-requires-then-takes c = c.take_name-taken.ensures.short

pub returns-then-takes : goal.returns-then-takes
returns-then-takes c =
    let r = rows (goal.at.returns-then-takes c).After-held_row-row in
    let es = c.args.book.now in
    c.show_first-then-takes.ensures
    ∙ ap (λ w. panel_of es (typing w 0))
    (c.take_name-taken.ensures.holds
    ∙ ap (λ i. highlighted es (typing (typed_in c.args.p) i)) (ap (λ r. r.number) c.row_at.ensures ∙ r.here))
    ∙ acts.taken es c.args.p c.args.key (r.taking ∙ sym c.takes.ensures ∙ c.if-takes.true)

pub moved-to-requires : goal.moved-to-requires
moved-to-requires c =
    omega (arith, (rows (goal.at.moved-to-requires c).After-held_row-row).on, c.lower-lowered.ensures)

pub row_at-requires-2 : goal.row_at-requires-2
row_at-requires-2 c =
    let r = rows (goal.at.row_at-requires-2 c).After-held_row-row in omega (arith, c.moved-to.ensures.1, r.rows.few)

pub show-requires : goal.show-requires
show-requires c =
    let r = rows (goal.at.show-requires c).After-held_row-row in
    let places : length c.rows_of-rows.result.offered ≡ max_count = search rules in (
      on_row_of _ (typed_in c.args.p) c.rows_of-rows.result r.rows places _ c.moved-to.ensures.1 c.row_at-2.ensures,
      c.requires.0.short,
    )

pub returns : goal.returns
returns c =
    let r = rows (goal.at.returns c).After-held_row-row in
    let long : length c.args.p.text ≡ longest_name = search rules in
    let typed = typed_length c.args.p long c.requires.0.short in
    let es = c.args.book.now in
    let key = c.args.key in
    let to = c.moved-to.ensures in
    c.show.ensures
    ∙ ap (λ r. panel_of es (typing (typed_in c.args.p) r.number)) c.row_at-2.ensures
    ∙ acts.moved es c.args.p key
    (to.0
    ∙ ap (λ i. moved_row key i c.rows_of-rows.result.count) r.here
    ∙ ap (moved_row key (acts.row es c.args.p key)) r.rows.count)
    (omega (arith, to.1, r.rows.count)) typed (sym c.changes_text.ensures ∙ c.if-changes_text.false)
    (r.taking ∙ sym c.takes.ensures ∙ c.if-takes.false)

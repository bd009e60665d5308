-- `panel_keys::step_in` meets its contract: the checks in the table's order, then the key's act (proofs/Pressing).
use mathlib.Core.Path.{◌∙◌, ◌≡◌, sym}
use lib.ListN.{length}
use borrow.Author.Rules.{rules}
use Rattle.std.proofs.lemmas.Result.{err_from_is_err_and}
use Rattle.entries.specs.Names.{longest_name}
use Rattle.panel_keys.proofs.Pressing.{accepted, for_the_book, full, not_held, not_listed, not_typed, ready, text-front}
use Rattle.panel_keys.proofs.step_in.Goals as goal

pub returns-in_err-c : goal.returns-in_err-c
returns-in_err-c c =
    let p = err_from_is_err_and c.from_residual.result c.from_residual.ensures.1 in
    rw (p.1, p.2) (for_the_book c.args.book.now c.args.p c.args.key c.in_err-c.ensures)

pub returns-then-not-is_typed : goal.returns-then-not-is_typed
returns-then-not-is_typed c =
    not_typed c.args.book.now c.args.p c.args.key c.in_ok-c.ensures.is_it
    (sym c.is_typed.ensures ∙ c.if-not-is_typed.true)

pub returns-then-not-is_held : goal.returns-then-not-is_held
returns-then-not-is_held c =
    not_held c.args.book.now c.args.p c.args.key c.in_ok-c.ensures.is_it
    (sym c.is_typed.ensures ∙ c.if-not-is_typed.false) (sym c.is_held.ensures ∙ c.if-not-is_held.true)

pub returns-then-not-is_listed : goal.returns-then-not-is_listed
returns-then-not-is_listed c =
    not_listed c.args.book.now c.args.p c.args.key c.in_ok-c.ensures.is_it
    (sym c.is_typed.ensures ∙ c.if-not-is_typed.false) (sym c.is_held.ensures ∙ c.if-not-is_held.false)
    (sym c.is_listed.ensures ∙ c.if-not-is_listed.true)

pub returns-then-is_full : goal.returns-then-is_full
returns-then-is_full c =
    full c.args.book.now c.args.p c.args.key c.in_ok-c.ensures.is_it
    (sym c.is_typed.ensures ∙ c.if-not-is_typed.false) (sym c.is_held.ensures ∙ c.if-not-is_held.false)
    (sym c.is_listed.ensures ∙ c.if-not-is_listed.false) (sym c.is_full.ensures ∙ c.if-is_full.true)

pub act-requires : goal.act-requires
act-requires c =
    let long : length c.args.p.text ≡ longest_name = search rules in (
      ready c.args.p c.args.key (sym c.is_typed.ensures ∙ c.if-not-is_typed.false)
          (sym c.is_held.ensures ∙ c.if-not-is_held.false) (sym c.is_full.ensures ∙ c.if-is_full.false),
      rw (c.book.ensures ∙ c.in_ok-c.ensures.entries)
          (rw (text-front c.args.p.len c.args.p.text long c.min.ensures) at c.in_ok-c.ensures.located),
    )

pub returns : goal.returns
returns c =
    accepted c.args.book.now c.args.p c.args.key c.in_ok-c.ensures.is_it
    (sym c.is_typed.ensures ∙ c.if-not-is_typed.false) (sym c.is_held.ensures ∙ c.if-not-is_held.false)
    (sym c.is_listed.ensures ∙ c.if-not-is_listed.false) (sym c.is_full.ensures ∙ c.if-is_full.false)
    (rw (c.book.ensures ∙ c.in_ok-c.ensures.entries) at c.act.ensures)

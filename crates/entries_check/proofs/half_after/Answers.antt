-- `entries_check::half_after` meets its contract: the half that is open is closed first. No loop.
use mathlib.Core.Path.{◌∙◌, sym}
use Rattle.entries_laws.proofs.Halves.{is_none, is_open}
use Rattle.entries_check.proofs.Signs.{part_broken, part_closed, part_none}
use Rattle.entries_check.proofs.half_after.Goals as goal

pub returns-then-eq : goal.returns-then-eq
returns-then-eq c = rw (is_none c.args.half (sym c.eq.ensures ∙ c.if-eq.true)) c.half_from.ensures

pub returns-then-w-eq0 : goal.returns-then-w-eq0
returns-then-w-eq0 c =
    let a = c.args in
    sym (part_none _ a.w.now (is_open a.half (sym c.eq.ensures ∙ c.if-eq.false)) c.if-w-eq0.true)

pub closes-requires : goal.closes-requires
closes-requires c = is_open c.args.half (sym c.eq.ensures ∙ c.if-eq.false)

pub returns-then-not-closes : goal.returns-then-not-closes
returns-then-not-closes c =
    let a = c.args in
    sym (part_broken _ a.w.now (is_open a.half (sym c.eq.ensures ∙ c.if-eq.false)) c.if-w-eq0.false
    (sym c.closes.ensures ∙ c.if-not-closes.true))

pub returns : goal.returns
returns c =
    let a = c.args in
    c.half_from-2.ensures
    ∙ sym (part_closed _ a.w.now (is_open a.half (sym c.eq.ensures ∙ c.if-eq.false)) c.if-w-eq0.false
    (sym c.closes.ensures ∙ c.if-not-closes.false))

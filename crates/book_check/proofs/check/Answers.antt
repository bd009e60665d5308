-- `book_check::check` meets its contract: byte 0 is looked at before the rest (proofs/Answer). No loop, so no
-- invariant.
use mathlib.Core.Path.{◌∙◌, refl, sym}
use Rattle.book_check.proofs.Answer.{declined, known}
use Rattle.book_check.proofs.check.Goals as goal

pub returns-then-is_old : goal.returns-then-is_old
returns-then-is_old c = record { refusal = rw (sym c.is_old.ensures ∙ c.if-is_old.true) }

pub returns-in_default : goal.returns-in_default
returns-in_default c = declined c.today.ensures (sym c.is_old.ensures ∙ c.if-is_old.false) c.in_default.ensures

pub returns : goal.returns
returns c =
    known c.today.ensures c.in-Some.ensures refl refl

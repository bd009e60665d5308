-- `convert_calls::convert` meets its contract: the two layouts go by byte 0. No loop, so no invariant.
use mathlib.Core.Path.{◌∙◌, sym}
use Rattle.answer.proofs.Answers.{answered_as}
use Rattle.convert.proofs.Convert.{goes_back, goes_up}
use Rattle.convert_calls.proofs.Layouts.{in_layouts}
use Rattle.convert_calls.proofs.convert.Goals as goal

pub returns-then-is_old : goal.returns-then-is_old
returns-then-is_old c =
    answered_as (goes_up _ _ (sym c.is_old.ensures ∙ c.if-is_old.true))
    (in_layouts c.args.book.now c.args.dst.now c.old-old.ensures c.today-today.ensures
    c.convert_in.ensures)

pub returns : goal.returns
returns c =
    answered_as (goes_back _ _ (sym c.is_old.ensures ∙ c.if-is_old.false))
    (in_layouts c.args.book.now c.args.dst.now c.today-today.ensures c.old-old.ensures
    c.convert_in-2.ensures)

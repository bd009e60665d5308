-- `merge_read::is_due` meets its contract: its tests in the definition's order.
-- No loop.
use mathlib.Core.Path.{◌∙◌, ap, sym}
use mathlib.Core.Bool.{not}
use Rattle.merge_read.proofs.is_due.Goals as goal

pub returns-then-is_empty : goal.returns-then-is_empty
returns-then-is_empty c = rw (sym c.is_empty.ensures ∙ c.if-is_empty.true)

pub returns-then-is_empty-2 : goal.returns-then-is_empty-2
returns-then-is_empty-2 c =
    rw (sym c.is_empty.ensures ∙ c.if-is_empty.false, sym c.is_empty-2.ensures ∙ c.if-is_empty-2.true)

pub returns : goal.returns
returns c =
    rw (sym c.is_empty.ensures ∙ c.if-is_empty.false, sym c.is_empty-2.ensures ∙ c.if-is_empty-2.false)
    (ap not c.is_below.ensures)

-- `merge_read::is_due_too` meets its contract: by whether the one is due.
-- No loop.
use mathlib.Core.Path.{◌∙◌, ap, sym}
use mathlib.Core.Bool.{not}
use Rattle.merge_read.proofs.Dues.{due_other, due_same}
use Rattle.merge_read.proofs.is_due_too.Goals as goal

pub returns-then-due : goal.returns-then-due
returns-then-due c =
    c.equal.ensures ∙ sym (due_same c.args.name.now c.args.other.now (sym c.requires ∙ c.if-due.true))

pub returns : goal.returns
returns c =
    ap not c.is_empty.ensures ∙ sym (due_other c.args.name.now c.args.other.now (sym c.requires ∙ c.if-due.false))

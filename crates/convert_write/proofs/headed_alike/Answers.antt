-- `convert_write::headed_alike` meets its contract. No loop.
use mathlib.Core.Path.{◌∙◌, ap, sym}
use mathlib.Core.Bool.{not}
use Rattle.convert_write.proofs.headed_alike.Goals as goal

pub returns-then-is_head : goal.returns-then-is_head
returns-then-is_head c =
    let t = sym c.is_head.ensures ∙ c.if-is_head.true in
    c.is_head-second.ensures ∙ rw t

pub returns : goal.returns
returns c =
    let t = sym c.is_head.ensures ∙ c.if-is_head.false in
    rw t (ap not c.is_head-second.ensures)

-- `book_seek::settle` meets its contract: each arm is a form of what a loop keeps (proofs/Settling). No loop, so no
-- invariant.
use mathlib.Core.Path.{◌∙◌, sym}
use Rattle.book_seek.proofs.Settling.{settled-begun, settled-early, settled-past}
use Rattle.book_seek.proofs.settle.Goals as goal

pub returns-in-Below : goal.returns-in-Below
returns-in-Below c = c.early.ensures ∙ sym (settled-early _ _ _ c.in-Below.is)

pub returns-in-Begun : goal.returns-in-Begun
returns-in-Begun c = sym (settled-begun c.args.s c.args.index c.args.at c.in-Begun.is ∙ rw c.in-Begun.is)

pub returns-in-Past : goal.returns-in-Past
returns-in-Past c = sym (settled-past _ _ _ c.in-Past.is)

-- `book_seek::meet` meets its contract: each arm is a law of what a loop keeps (proofs/Settling). No loop, so no
-- invariant.
use mathlib.Core.Path.{refl}
use borrow.Author.Rules.{rules}
use Rattle.book_seek.proofs.Settling.{met_begun, met_over, met_under}
use Rattle.book_seek.proofs.meet.Goals as goal

pub returns-in-Below : goal.returns-in-Below
returns-in-Below c =
    let e = c.early.ensures in
    (met_under _ _ _ _ _ _ _ c.compare-c.ensures.0 c.in-Below.is _ e, rw e c.compare-c.ensures.1)

pub returns-in-Begun : goal.returns-in-Begun
returns-in-Begun c = (met_begun _ _ _ _ _ _ _ c.compare-c.ensures.0 c.in-Begun.is _ refl, search rules)

pub returns-in-Past : goal.returns-in-Past
returns-in-Past c = (met_over _ _ _ _ _ _ _ c.compare-c.ensures.0 c.in-Past.is _ refl, search rules)

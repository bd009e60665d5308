-- `book_seek::pass` meets its contract: each return is a law of what a loop keeps (proofs/Settling). No loop, so no
-- invariant.
use mathlib.Core.Path.{refl}
use borrow.Author.Rules.{rules}
use Rattle.book_seek.proofs.Settling.{pass_no_more, pass_over, pass_still, pass_under, settled-early}
use Rattle.book_seek.proofs.pass.Goals as goal

pub returns-then-s-p : goal.returns-then-s-p
returns-then-s-p c = (pass_under _ _ _ _ _ _ _ c.in-Below.is c.if-s-p.true, search rules)

pub returns-else-s-p : goal.returns-else-s-p
returns-else-s-p c =
    let a = c.args in
    (rw (settled-early a.s a.p.index a.p.at c.in-Below.is) c.meet.ensures.0, c.meet.ensures.1)

pub returns-then-p-key : goal.returns-then-p-key
returns-then-p-key c = (pass_no_more _ _ _ _ _ _ _ c.in-Begun.is c.if-p-key.true _ refl, search rules)

pub returns-else-p-key : goal.returns-else-p-key
returns-else-p-key c = (pass_still _ _ _ _ _ _ _ c.in-Begun.is c.if-p-key.false, search rules)

pub returns-in-Past : goal.returns-in-Past
returns-in-Past c = (pass_over _ _ _ _ _ _ _ c.in-Past.is, search rules)

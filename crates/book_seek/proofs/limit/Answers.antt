-- `book_seek::limit` meets its contract: each arm is a law of what a loop keeps (proofs/Settling). No loop, so no
-- invariant.
use native.Mathlib.Omega.{arith}
use Rattle.book_seek.proofs.Settling.{pass_over, pass_still, pass_under}
use Rattle.book_seek.proofs.limit.Goals as goal

pub returns-in-Below : goal.returns-in-Below
returns-in-Below c i at end kept rest h = pass_under _ i at end kept rest _ c.in-Below.is (omega arith)

pub returns-in-Begun : goal.returns-in-Begun
returns-in-Begun c i at end kept rest h = pass_still _ i at end kept rest _ c.in-Begun.is h

pub returns-in-Past : goal.returns-in-Past
returns-in-Past c i at end kept rest h = pass_over _ i at end kept rest _ c.in-Past.is

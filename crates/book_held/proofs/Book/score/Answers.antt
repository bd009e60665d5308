-- `book_held::Book::score` meets its contract: the score stands in its place. No loop, so no invariant.
use native.Mathlib.Omega.{arith}
use Rattle.book_held.proofs.Places.{few, scored}
use Rattle.book_held.proofs.Book.score.Goals as goal

pub score_at-requires : goal.score_at-requires
score_at-requires c = omega (arith, c.requires, few c.self.invariant c.self.view_is)

pub returns : goal.returns
returns c = scored c.self.invariant c.self.view_is c.requires c.score_at.ensures

-- `book_held::Book::peak` meets its contract: the peak stands in its place. No loop, so no invariant.
use native.Mathlib.Omega.{arith}
use Rattle.book_laws.proofs.Held.{held_few}
use Rattle.book_held.proofs.Places.{few, peak_is}
use Rattle.book_held.proofs.Book.peak.Goals as goal

pub peak_at-requires : goal.peak_at-requires
peak_at-requires c = (held_few c.self.invariant, omega (arith, c.requires, few c.self.invariant c.self.view_is))

pub returns : goal.returns
returns c = peak_is c.self.invariant c.self.view_is _ c.requires c.today.ensures c.peak_at.ensures

-- `book_held::Book::len` meets its contract: the entries of a checked book are allowed. No loop, so no invariant.
use Rattle.book_held.proofs.Places.{few, ok}
use Rattle.book_held.proofs.Book.len.Goals as goal

pub returns-clause-few : goal.returns-clause-few
returns-clause-few c = few c.self.invariant c.self.view_is

pub returns-clause-ok : goal.returns-clause-ok
returns-clause-ok c = ok c.self.invariant c.self.view_is

-- `book_held::Book::records_start` meets its contract. No loop, so no invariant.
use Rattle.book_laws.proofs.Held.{held_few}
use Rattle.book_held.proofs.Book.records_start.Goals as goal

pub records_at-requires : goal.records_at-requires
records_at-requires c = held_few c.self.invariant

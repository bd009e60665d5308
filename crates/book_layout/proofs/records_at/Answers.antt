-- `book_layout::records_at` meets its contract: behind as many peaks as there are blocks.
-- No loop, so no invariant.
use native.Mathlib.Omega.{arith}
use Rattle.book.specs.Book.{records_at}
use Rattle.book_layout.proofs.records_at.Goals as goal

pub returns : goal.returns
unfolding records_at
returns c = omega arith

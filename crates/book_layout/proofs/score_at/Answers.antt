-- `book_layout::score_at` meets its contract: the number that is read stands where `score_at` looks.
-- No loop, so no invariant.
use Rattle.book_laws.specs.Check.{score_at}
use Rattle.book_layout.proofs.score_at.Goals as goal

pub returns : goal.returns
unfolding score_at
returns c = rw (← c.score_start.ensures) c.read_u32.ensures

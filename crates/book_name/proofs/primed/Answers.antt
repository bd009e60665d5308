-- `book_name::primed` meets its contract: the prefix is copied to the front of the array.
-- No loop, so no invariant.
use mathlib.Core.Path.{refl}
use Rattle.book_name.proofs.Poising.{front_of-sets}
use Rattle.book_name.proofs.primed.Goals as goal

pub returns : goal.returns
returns c =
    record {
      position = refl;
      place = refl;
      front = λ h. front_of-sets _ _ c.copy.ensures h;
    }

-- `book_layout::image_length` meets its contract: bytes 1 to 4 of a book say how many bytes it has.
-- No loop.
use mathlib.Core.Path.{◌∙◌, refl}
use Rattle.book_laws.proofs.Held.{held_stored}
use Rattle.book_layout.proofs.image_length.Goals as goal

pub returns : goal.returns
returns c = c.read_u32.ensures ∙ (held_stored (record { is_it = c.requires; count = refl })).total

-- The count stands in its place.
use Rattle.std.proofs.Common.{◌≡◌, length}
use Rattle.std.proofs.Math.Path.{◌∙◌}
use Rattle.book.specs.Book.{in_book}
use native.Mathlib.Omega.{arith}
use Rattle.label_book_c.proofs.HeadStart.{count_there, few_there}
use Rattle.label_book_c.proofs.head_start.Goals as goal

count : (c : goal.After-read_u16-n) → c.read_u16-n.result ≡ length (in_book c.args.book.now)
count c = c.read_u16-n.ensures ∙ count_there _ c.requires

pub head_start-requires : goal.head_start-requires
head_start-requires c = omega (arith, count c, few_there _ c.requires)

pub returns : goal.returns
returns c = rw (c.head_start.ensures, c.read_u16-n.ensures ∙ count_there _ c.requires)

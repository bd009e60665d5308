-- `book_rows::put_row` meets its contract: the row and its length are stored, or nothing is (proofs/Filling).
-- No loop, so no invariant.
use mathlib.Core.Path.{◌≡◌}
use lib.ListN.{length}
use borrow.Author.Rules.{rules}
use Rattle.octets.proofs.Lists.{length_mapped}
use Rattle.entries.specs.Names.{longest_name}
use Rattle.book_rows.proofs.Filling.{put_here}
use Rattle.book_rows.proofs.put_row.Goals as goal

pub returns : goal.returns
returns c =
    let long : length c.args.c.name ≡ longest_name = search (rules, length_mapped) in
    put_here c.args.c long c.requires.1 _ _ _ _ c.requires.2 c.requires.3 c.if-position-c.false
    c.copy.ensures

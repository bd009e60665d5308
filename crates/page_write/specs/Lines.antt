-- The bytes of a page by the lengths of its names, the further lines of a name, and what a page is written from.
use Rattle.std.specs.Prelude.{◌*◌, ◌+◌, ◌≤◌, suc, ℕ, ◌≡◌, true, List, [], ◌∷◌, map, length}
use Rattle.octets.specs.Lists.{ceil, concat_map}
use Rattle.entries.specs.Entries.{valid}
use Rattle.book_table.specs.Table.{Table, entries}
use Rattle.page.specs.Page.{ended, further_line, line_bytes, name_columns, page_image, parts}

-- the lines of names of these lengths
abbrev pub lines_of : List ℕ → ℕ
lines_of [] = 0
lines_of (l ∷ lens) = ceil l name_columns + lines_of lens

-- with the heading's line, in bytes
unfoldable pub page_bytes : List ℕ → ℕ
page_bytes lens = suc (lines_of lens) * line_bytes

-- the lines behind an entry's first one, of what that left of its name
unfoldable pub further : List ℕ → List ℕ
further rest = concat_map ended (map further_line (parts rest))

-- a table of a book's entries, and room for their page
pub record Pageable (names lens scores dst : List ℕ) : Type 0 where
  pub table : Table names lens scores
  pub ok : valid (entries names lens scores) ≡ true
  pub room : length (page_image (entries names lens scores)) ≤ length dst

-- A page for the wall (document 02, request e): a book laid out as lines, and the call that writes it.
use Rattle.std.specs.Prelude.{◌+◌, ◌-◌, suc, zero, ℕ, List, [], ◌++◌, ◌∷◌, map, drop, length, replicate, take}
use Rattle.octets.specs.Decimal.{decimal}
use Rattle.octets.specs.Lists.{concat_map}
use Rattle.octets.specs.Text.{line_feed, text}
use Rattle.entries.specs.Entries.{Entry, by_rank}
use Rattle.answer.specs.Answers.{Outcome, WrittenCounts}
use Rattle.book.specs.Checks.{from_book}

-- the columns of a line, each one byte; those of a name, and those of a score
abbrev pub page_columns : ℕ
page_columns = 40

abbrev pub name_columns : ℕ
name_columns = 28

abbrev pub score_columns : ℕ
score_columns = 10

-- the bytes of a line with its line feed
abbrev pub line_bytes : ℕ
line_bytes = page_columns + 1

abbrev pub spaces : ℕ → List ℕ
spaces n = replicate n 0x20

-- a text in n columns: with spaces behind it, and with spaces in front of it
abbrev pub padded : ℕ → List ℕ → List ℕ
padded n w = w ++ spaces (n - length w)

abbrev pub right_aligned : ℕ → List ℕ → List ℕ
right_aligned n w = spaces (n - length w) ++ w

-- the heading line is the bytes NAME, 31 spaces, SCORE
unfoldable pub heading : List ℕ
heading = text "NAME" ++ spaces 31 ++ text "SCORE"

-- an entry's first line: 28 columns of name padded with spaces, two spaces, the score right-aligned in 10
unfoldable pub first_line : Entry → List ℕ
first_line e =
    padded name_columns (take name_columns e.name) ++ spaces 2 ++ right_aligned score_columns (decimal e.score)

-- a further line: the part of the name that it has, padded, with 12 spaces after
unfoldable pub further_line : List ℕ → List ℕ
further_line w = padded name_columns w ++ spaces 12

-- what is left of a name in parts of 28 bytes, the last as long as it is; at most k of them
abbrev pub parts_to : ℕ → List ℕ → List (List ℕ)
parts_to zero w = []
parts_to (suc k) [] = []
parts_to (suc k) (b ∷ w) = take name_columns (b ∷ w) ∷ parts_to k (drop name_columns (b ∷ w))

unfoldable pub parts : List ℕ → List (List ℕ)
parts w = parts_to (length w) w

-- the lines of an entry: a longer name goes on in further ones, and only the first has the score
unfoldable pub entry_lines : Entry → List (List ℕ)
entry_lines e = first_line e ∷ map further_line (parts (drop name_columns e.name))

-- the lines of a page: the heading, then those of each entry, in rank
unfoldable pub page_lines : List Entry → List (List ℕ)
page_lines es = heading ∷ concat_map entry_lines (by_rank es)

-- a line and a line feed
abbrev pub ended : List ℕ → List ℕ
ended l = l ++ line_feed

-- the bytes that an entry takes, for the laws and the code
abbrev pub on_page : Entry → List ℕ
on_page e = concat_map ended (entry_lines e)

unfoldable pub page_image : List Entry → List ℕ
page_image es = concat_map ended (page_lines es)

-- write the page of a book
unfoldable pub write_page : List ℕ → List ℕ → Outcome WrittenCounts
write_page book dst = from_book page_image book dst

-- A book moved up or back (document 02, request g): "One call writes 21 as 22 and 22 as 21, by byte 0".
use Rattle.std.specs.Prelude.{ℕ, List}
use Rattle.octets.specs.Lists.{if◌then◌otherwise◌}
use Rattle.answer.specs.Answers.{Outcome, WrittenCounts, converting}
use Rattle.book.specs.declared.Layout.{Layout}
use Rattle.book.specs.Book.{image_in, layout21, layout22, read_in}
use Rattle.book.specs.Checks.{is_old}

-- a book laid out as l, written as m: 1 where it is not so laid out, 7 where the destination is too short
abbrev pub convert_in : Layout → Layout → List ℕ → List ℕ → Outcome WrittenCounts
convert_in l m book dst = converting (read_in l) (image_in m) book dst

-- The layout that a book is read in, by byte 0 alone, and the one that it is written in. A buffer with another byte 0,
-- or none, is read as 22, which it is not: 1.
abbrev pub read_as_in : List ℕ → Layout
read_as_in book = if is_old book then layout21 otherwise layout22

abbrev pub written_in : List ℕ → Layout
written_in book = if is_old book then layout22 otherwise layout21

unfoldable pub convert_book : List ℕ → List ℕ → Outcome WrittenCounts
convert_book book dst = convert_in (read_as_in book) (written_in book) book dst

-- A whole book, where the destination has room.
use Rattle.std.specs.Prelude.{ℕ, List, []}
use Rattle.entries.specs.Entries.{Entry}
use Rattle.answer.specs.Answers.{Outcome, WrittenCounts, writing_image}
use Rattle.book.specs.declared.Layout.{Layout}
use Rattle.book.specs.Book.{image_in, today}

-- a whole book in a layout written, where the destination has room
abbrev pub whole_in : Layout → List Entry → List ℕ → Outcome WrittenCounts
whole_in l es dst = writing_image [] es (image_in l es) dst

-- the same in the layout of today
abbrev pub whole_book : List Entry → List ℕ → Outcome WrittenCounts
whole_book es dst = whole_in today es dst

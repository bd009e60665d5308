-- The edits (document 01, "Edits"): each reads the old image in one buffer and writes the new one at the front of
-- another.
use Rattle.std.specs.Prelude.{ℕ, ◌&&◌, not, List, [], ◌++◌, ◌∷◌, leb, length}
use Rattle.entries.specs.Entries.{Entry, entry, holds, max_entries, with, without}
use Rattle.entries.specs.Names.{is_name}
use Rattle.answer.specs.Answers.{Check, Outcome, WrittenCounts, ◌when◌, writing_image}
use Rattle.book.specs.Book.{book_image, in_book}
use Rattle.book.specs.Checks.{book_checks}

unfoldable pub empty_book : List ℕ → Outcome WrittenCounts
empty_book dst = writing_image [] [] (book_image []) dst

-- what a set, and a withdrawal, is refused for besides the book and the space: the ledger of a history says the same
abbrev pub set_refusals : List ℕ → List Entry → List Check
set_refusals w es = 2 when not (is_name w) ∷ 5 when (not (holds w es) && leb max_entries (length es)) ∷ []

abbrev pub withdraw_refusals : List ℕ → List Entry → List Check
withdraw_refusals w es = 2 when not (is_name w) ∷ 4 when not (holds w es) ∷ []

-- set adds a name or gives it a new score
unfoldable pub set_entry : List ℕ → List ℕ → ℕ → List ℕ → Outcome WrittenCounts
set_entry book w s dst =
    let es = in_book book in
    let result = with (entry w s) es in
    writing_image (book_checks (book ∷ []) ++ set_refusals w es) result (book_image result) dst

-- withdraw removes it
unfoldable pub withdraw_entry : List ℕ → List ℕ → List ℕ → Outcome WrittenCounts
withdraw_entry book w dst =
    let es = in_book book in
    let result = without w es in
    writing_image (book_checks (book ∷ []) ++ withdraw_refusals w es) result (book_image result) dst

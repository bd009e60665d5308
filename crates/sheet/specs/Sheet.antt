-- The sheet (document 01, "Sheet, finding, panel, program"): its image, its reading, and the two calls between sheet
-- and book.
use Rattle.std.specs.Prelude.{◌≤◌, suc, zero, ℕ, ◌≡◌, List, [], ◌∷◌, drop, get_or, length, take}
use Rattle.std.proofs.Math.Option.{Option, some}
use Rattle.octets.specs.Octets.{from_be, overwrite}
use Rattle.entries.specs.Entries.{Entry, entry}
use Rattle.answer.specs.Answers.{Outcome, WrittenCounts, converting, entries_bytes}
use Rattle.frame.specs.Frame.{count_of, entries_of, framed, read_as}
use Rattle.book.specs.Book.{book_image, read_book}
use Rattle.book.specs.Checks.{from_book}

unfoldable pub sheet_image : List Entry → List ℕ
sheet_image es = framed 0x11 (length es) (entries_bytes es)

-- what stands behind the name of the entry at the front
abbrev pub behind_name : List ℕ → List ℕ
behind_name bs = drop (get_or bs 0 0) (drop 1 bs)

abbrev pub sheet_from : ℕ → List ℕ → List Entry
sheet_from zero bs = []
sheet_from (suc n) bs =
    entry (take (get_or bs 0 0) (drop 1 bs)) (from_be (take 4 (behind_name bs))) ∷ sheet_from n (drop 4 (behind_name bs))

unfoldable pub sheet_entries : List ℕ → List Entry
sheet_entries buf = sheet_from (count_of buf) (drop 7 buf)

unfoldable pub read_sheet : List ℕ → Option (List Entry)
read_sheet buf = read_as sheet_entries sheet_image buf

-- its entries
abbrev pub in_sheet : List ℕ → List Entry
in_sheet buf = entries_of (read_sheet buf)

-- build a book from a sheet
unfoldable pub build_book : List ℕ → List ℕ → Outcome WrittenCounts
build_book sheet dst = converting read_sheet book_image sheet dst

-- list a book into a sheet
unfoldable pub list_book : List ℕ → List ℕ → Outcome WrittenCounts
list_book book dst = from_book sheet_image book dst

-- Sheet to book to sheet, and book to sheet to book, with long enough destinations: the same bytes.
pub record RoundTrips : Type 0 where
  pub sheet :
      (sheet d₁ d₂ : List ℕ) (es : List Entry) → read_sheet sheet ≡ some es
      → length (book_image es) ≤ length d₁ → length (sheet_image es) ≤ length d₂
      → (list_book (build_book sheet d₁).dest d₂).dest ≡ overwrite d₂ (take (length (sheet_image es)) sheet)
  pub book :
      (book d₁ d₂ : List ℕ) (es : List Entry) → read_book book ≡ some es
      → length (sheet_image es) ≤ length d₁ → length (book_image es) ≤ length d₂
      → (build_book (list_book book d₁).dest d₂).dest ≡ overwrite d₂ (take (length (book_image es)) book)

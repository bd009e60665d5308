-- Sheet to book to sheet, and book to sheet to book, with long enough buffers: the same bytes.
use Prim.Native.Nat.{◌≤◌, ℕ}
use mathlib.Core.Path.{◌∙◌, ◌≡◌, ap}
use mathlib.Core.List.{List}
use mathlib.Core.Option.{some}
use lib.ListN.{drop, length}
use Rattle.entries.specs.Entries.{Entry}
use Rattle.answer.specs.Answers.{converting, writing, writing_image}
use Rattle.answer.proofs.Converting.{converted, round_trip_lem}
use Rattle.book.specs.Book.{book_image, read_book}
use Rattle.book.proofs.Checks.{read_not_old}
use Rattle.book.proofs.Reading.{book_exact, read_book_of}
use Rattle.sheet.specs.Sheet.{RoundTrips, build_book, list_book, read_sheet, sheet_image}
use Rattle.sheet.proofs.Reading.{sheet_exact}

-- a book that is read is not an old one, so that it is listed as any image is converted
listed : (book dst : List ℕ) (es : List Entry) → read_book book ≡ some es
    → list_book book dst ≡ converting read_book sheet_image book dst
unfolding list_book writing_image writing
listed book dst es r = rw (read_not_old book (rw r), r)

-- what is built is read
built : (sheet dst : List ℕ) (es : List Entry) → read_sheet sheet ≡ some es → length (book_image es) ≤ length dst
    → read_book (build_book sheet dst).dest ≡ some es
unfolding build_book
built sheet dst es r h =
    rw (converted read_sheet book_image sheet dst es r h)
    (read_book_of es (drop (length (book_image es)) dst) (sheet_exact.sound es sheet r).0)

pub round_trips_lem : RoundTrips
unfolding build_book
round_trips_lem =
    record {
      sheet = λ sheet d₁ d₂ es r h k. ap (λ o. o.dest)
          (listed (build_book sheet d₁).dest d₂ es (built sheet d₁ es r h))
          ∙ round_trip_lem read_sheet sheet_image read_book book_image sheet_exact book_exact sheet d₁ d₂ es r h k;
      book = λ book d₁ d₂ es r h k. rw (listed book d₁ es r)
          (round_trip_lem read_book book_image read_sheet sheet_image book_exact sheet_exact book d₁ d₂ es r h k);
    }

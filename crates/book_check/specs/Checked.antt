-- What the check answers: of an image in any layout, and of a book that a call is given.
use Rattle.std.specs.Prelude.{ℕ, ◌≡◌, Err, None, Ok, Option, Result, Some, false, true, List, [], ◌∷◌, length}
use Rattle.entries.specs.Entries.{Entry, names}
use Rattle.answer.specs.Answers.{refused, unless}
use Rattle.answer.specs.Reports.{number_of}
use Rattle.answer.specs.declared.Refusal.{Refusal}
use Rattle.book.specs.declared.Layout.{Layout}
use Rattle.book.specs.Book.{in_book, in_book_in, is_book_in, records_at, today}
use Rattle.book.specs.Checks.{book_checks}
use Rattle.book_laws.specs.Held.{HeldIn}
use Rattle.book_seek.specs.Seek.{Seeking}
use Rattle.book_seek.specs.declared.Seek.{Seek}
use Rattle.book_check.specs.declared.known.Checked.{Checked}
use Rattle.book_check.specs.declared.CheckedImage.{CheckedImage}

-- where the key stands among the names of a book that has no heads
abbrev pub Located : Layout → List ℕ → List ℕ → Seek → Type 0
Located l buf key s =
    l.heads ≡ false → is_book_in l buf ≡ true
    → Seeking key (records_at l (length (in_book_in l buf))) (names (in_book_in l buf)) s

-- an image that is no book in this layout; or how many entries the book has, and where the key stands
abbrev pub CheckedIn : Layout → List ℕ → List ℕ → Option CheckedImage → Type 0
CheckedIn l buf key None = is_book_in l buf ≡ false
CheckedIn l buf key (Some c) = HeldIn l buf c.n × Located l buf key c.seek

-- the entries of a book that was checked
abbrev pub entries_in : Checked → List Entry
entries_in c = in_book c.image.now

-- what a call knows of its book: how many entries it has, and where the key stands among their names
pub record Known (book key : List ℕ) (c : Checked) : Type 0 where
  pub is_it : is_book_in today book ≡ true
  pub entries : entries_in c ≡ in_book book
  pub located : Seeking key (records_at today (length (in_book book))) (names (in_book book)) c.seek

-- what it declines with for the book's sake
pub record Declined (book : List ℕ) (r : Refusal) : Type 0 where
  pub refusal : unless {A = ℕ} (book_checks (book ∷ [])) 0 ≡ refused (number_of r)

-- one or the other
abbrev pub CheckedAs : List ℕ → List ℕ → Result Checked Refusal → Type 0
CheckedAs book key (Err r) = Declined book r
CheckedAs book key (Ok c) = Known book key c

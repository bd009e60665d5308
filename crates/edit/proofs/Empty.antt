-- "Empty": refused below 7 bytes, else the book of no entries stands at the front.
use Prim.Native.Nat.{◌<◌, ◌≤◌, ℕ}
use mathlib.Core.Path.{◌≡◌, ap, refl}
use mathlib.Core.Bool.{true}
use mathlib.Core.List.{List, [], ◌∷◌}
use lib.ListN.{length}
use borrow.Author.Tests.{le-ltb, lt-ltb}
use Rattle.octets.specs.Octets.{be, overwrite}
use Rattle.entries.specs.Entries.{valid}
use Rattle.answer.specs.Answers.{given, refused, writing, writing_image}
use Rattle.book.specs.Book.{book_image, image_in, offsets, peaks, scores}
use Rattle.frame.specs.Frame.{framed}
use Rattle.edit.specs.Edits.{empty_book}

empty_bytes : book_image [] ≡ 0x22 ∷ 0 ∷ 0 ∷ 0 ∷ 7 ∷ 0 ∷ 0 ∷ []
unfolding image_in framed be scores offsets peaks
empty_bytes = refl

pub empty_length : length (book_image []) ≡ 7
empty_length = ap length empty_bytes

pub empty_refused : (a : List ℕ) → length a < 7 → empty_book a ≡ record { answer = refused 7; dest = a }
unfolding empty_book writing_image writing
empty_refused a h = rw (empty_length, lt-ltb (length a) 7 h)

pub empty_given :
    (a : List ℕ) → 7 ≤ length a
    → empty_book a ≡ record { answer = given (record { entries = 0; bytes = 7 }); dest = overwrite a (book_image []) }
unfolding empty_book writing_image writing
empty_given a h = rw (empty_length, le-ltb (length a) 7 h)

pub empty_valid : valid [] ≡ true
unfolding valid
empty_valid = refl

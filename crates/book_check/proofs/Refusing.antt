-- What a call does with the answer of `check`: a refusal is the call's answer, whatever it looks for next; else it goes
-- on, as if the book had not to be looked at.
use Prim.Native.Nat.{ℕ}
use mathlib.Core.Path.{◌≡◌}
use mathlib.Core.List.{List, [], ◌++◌, ◌∷◌}
use Rattle.entries.specs.Entries.{Entry}
use Rattle.answer.specs.Answers.{Check, given, refused, unless, writing_image}
use Rattle.answer.specs.Reports.{number_of}
use Rattle.answer.specs.declared.Refusal.{Refusal}
use Rattle.answer.proofs.Answers.{declined, image_refused, unless_clear, unless-refused}
use Rattle.book.specs.Checks.{book_checks}
use Rattle.book.proofs.Checks.{book_clear}
use Rattle.book_check.specs.Checked.{Declined, Known}
use Rattle.book_check.specs.declared.known.Checked.{Checked}

abbrev checks : List ℕ → List Check
checks book = book_checks (book ∷ [])

-- the call declines
module _ {book : List ℕ} {r : Refusal} (c : Declined book r) (ds : List Check) where
  pub refused_first : {A : Type 0} (a : A) → unless (checks book ++ ds) a ≡ refused (number_of r)
  refused_first a = unless-refused {B = ℕ} (checks book) 0 (number_of r) c.refusal ds a

  pub refused_image :
      (es : List Entry) (image dst : List ℕ)
      → writing_image (checks book ++ ds) es image dst ≡ declined (number_of r) dst
  refused_image es image dst = image_refused {B = ℕ} (checks book) 0 ds es image dst (number_of r) c.refusal

-- it goes on
module _ {book key : List ℕ} {x : Checked} (c : Known book key x) (ds : List Check) where
  clear : unless {A = ℕ} (checks book) 0 ≡ given 0
  clear = book_clear book c.is_it

  pub passed : {A : Type 0} (a : A) → unless (checks book ++ ds) a ≡ unless ds a
  passed a = unless_clear {B = ℕ} (checks book) 0 0 clear ds a

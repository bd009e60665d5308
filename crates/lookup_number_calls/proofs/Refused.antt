-- What the check of a book refuses is what the calls by number refuse first.
use Prim.Native.Nat.{ℕ}
use mathlib.Core.Path.{◌≡◌, refl, sym}
use mathlib.Core.List.{List, [], ◌∷◌}
use lib.Dec.{leb}
use lib.ListN.{length}
use Rattle.entries.specs.Entries.{at}
use Rattle.answer.specs.Answers.{◌when◌, entry_bytes, refused}
use Rattle.answer.specs.Reports.{Answered, number_of}
use Rattle.answer.specs.declared.Refusal.{Refusal}
use Rattle.std.specs.Prelude.{Err}
use Rattle.answer.proofs.Answers.{answered_as}
use Rattle.book.specs.Book.{in_book, reported}
use Rattle.lookup.specs.Lookups.{check_book, name_at}
use Rattle.book_check.specs.Checked.{Declined}
use Rattle.book_check.proofs.Refusing.{refused_first, refused_image}

module _ (b : List ℕ) {r : Refusal} (c : Declined b r) where
  pub check_refused : refused (number_of r) ≡ check_book b
  unfolding check_book
  check_refused = sym (refused_first c [] (reported (in_book b)))

  pub position-refused : (i : ℕ) (dst : List ℕ) → Answered (name_at b i dst) (Err r) dst
  unfolding name_at
  position-refused i dst =
      let e = at (in_book b) i in
      answered_as
      (refused_image c (6 when leb (length (in_book b)) i ∷ []) (e ∷ []) (entry_bytes e) dst)
      (record { answer = refl; left = refl })

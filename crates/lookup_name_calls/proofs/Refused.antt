-- What the check of a book refuses is what the lookups by name refuse first.
use Prim.Native.Nat.{ℕ}
use mathlib.Core.Path.{◌≡◌, sym}
use mathlib.Core.Bool.{not}
use mathlib.Core.List.{List, [], ◌∷◌}
use lib.ListN.{length}
use Rattle.entries.specs.Completion.{matches, range_start}
use Rattle.entries.specs.Names.{is_name, is_prefix}
use Rattle.answer.specs.Answers.{◌when◌, refused}
use Rattle.answer.specs.Reports.{number_of}
use Rattle.answer.specs.declared.Refusal.{Refusal}
use Rattle.book.specs.Book.{in_book}
use Rattle.lookup.specs.Lookups.{find, found_in, prefix_range}
use Rattle.book_check.specs.Checked.{Declined}
use Rattle.book_check.proofs.Refusing.{refused_first}

module _ (b w : List ℕ) {r : Refusal} (c : Declined b r) where
  pub find-refused : refused (number_of r) ≡ find b w
  unfolding find
  find-refused = sym (refused_first c (2 when not (is_name w) ∷ []) (found_in w (in_book b)))

  pub range_refused : refused (number_of r) ≡ prefix_range b w
  unfolding prefix_range
  range_refused =
      let es = in_book b in
      sym (refused_first c (2 when not (is_prefix w) ∷ [])
      (record { first = range_start w es; count = length (matches w es) }))

-- The head name of a book with entries, told by its place in the book.
use Prim.Native.Nat.{◌<◌, ◌≤◌, ℕ}
use mathlib.Core.Path.{◌≡◌, refl}
use mathlib.Core.Logic.{inl, inr}
use mathlib.Core.Bool.{false, not, true}
use mathlib.Core.List.{List, [], ◌++◌, ◌∷◌}
use lib.Dec.{eqb, ltb}
use lib.ListN.{length}
use borrow.Author.Tests.{ltb-true, not-false}
use Rattle.octets.specs.Octets.{number_at}
use Rattle.octets.proofs.Tests.{and_true_both, or_false}
use Rattle.entries.specs.Entries.{at, max_entries}
use Rattle.answer.specs.Answers.{Check, ◌when◌, given, refused}
use Rattle.book.specs.Book.{in_book, is_book}
use Rattle.book.specs.Checks.{book_checks}
use Rattle.book_laws.specs.Held.{Held}
use Rattle.lookup.specs.Lookups.{has_head, head_length, head_name}
use Rattle.answer.proofs.Answers.{clear, given_is}
use Rattle.book_laws.proofs.Held.{held_few, held_stored}
use Rattle.lookup_head_calls.proofs.Place.{held_head}
use Rattle.abi.specs.Left.{HeadTold, head_at}

-- the count, which leads there
module _ (book : List ℕ) (h : is_book book ≡ true) where
  held : Held book (length (in_book book))
  held = record { is_it = h; count = refl }

  pub count_there : number_at 2 book 5 ≡ length (in_book book)
  count_there = (held_stored held).count

  pub few_there : length (in_book book) ≤ max_entries
  few_there = held_few held

module _ (book : List ℕ) (j : ℕ) where
  abbrev len : ℕ
  len = length (at (in_book book) 0).name

  checks : List Check
  checks = book_checks (book ∷ []) ++ (6 when not (has_head (in_book book) j) ∷ [])

  -- a length is given of a book with entries
  pub is_there_lem : (k : ℕ) → head_length book j ≡ given k → (is_book book ≡ true) × (0 < length (in_book book))
  unfolding head_length checks
  is_there_lem k h =
      let ok = clear checks len k h in
      let t = not-false (has_head (in_book book) j) (ok _ (inr (inr (inl refl)))) in (
        not-false (is_book book) (or_false (not (is_book book)) false (ok _ (inr (inl refl)))).0,
        ltb-true 0 (length (in_book book)) (and_true_both (eqb j 0) (ltb 0 (length (in_book book))) t).1,
      )

  length_is : (k : ℕ) → head_length book j ≡ given k → len ≡ k
  unfolding head_length checks
  length_is k h = given_is checks len k h

  -- the part there is the name
  pub told_part : (k : ℕ) → head_length book j ≡ given k → HeadTold book j 0 (head_at book) k
  unfolding head_name
  told_part k h =
      let b = is_there_lem k h in
      let l = length_is k h in
      let p = (held_head (held book b.0) refl b.1).name in
      record { returned = rw h; start = rw h; size = rw h; part = rw h (rw l at p) }

  pub told_refused : (n : ℕ) → head_length book j ≡ refused n → HeadTold book j n 0 0
  unfolding head_name
  told_refused n h = record { returned = rw h; start = rw h; size = rw h; part = rw h }

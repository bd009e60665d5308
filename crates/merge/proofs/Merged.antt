-- A merge keeps its promise.
use Prim.Native.Nat.{◌≤◌, ℕ}
use mathlib.Core.Path.{◌∙◌, ◌≡◌, ap, refl, sym}
use mathlib.Core.Logic.{inl, inr}
use mathlib.Core.Bool.{◌||◌, false, not, true}
use mathlib.Core.List.{List, [], ◌++◌, ◌∷◌}
use lib.ListN.{drop, length}
use lib.Seq.{take-append_seam}
use borrow.Author.Tests.{le-ltb, ltb-false, not-false}
use Rattle.octets.specs.Lists.{◌∈◌}
use Rattle.octets.specs.Octets.{overwrite}
use Rattle.octets.proofs.Tests.{or_false}
use Rattle.entries.specs.Entries.{max_entries, valid}
use Rattle.entries.proofs.Valid.{valid_of}
use Rattle.answer.specs.Answers.{Check, WrittenCounts, ◌when◌, given, refused, too_short, writing, writing_image}
use Rattle.book.specs.Book.{book_image, in_book, is_book, reported}
use Rattle.answer.proofs.Answers.{clear, given_is, refused-same}
use Rattle.book.proofs.Checks.{read_not_old}
use Rattle.book.proofs.Reading.{read_book_of, valid_in}
use Rattle.ledger.proofs.Demand.{offers_best_lem}
use Rattle.merge.specs.Joined.{merge_books, merge_refusals, merged_entries}
use Rattle.merge.specs.Merged.{Merged, MergedAll}
use Rattle.merge.proofs.Joined.{joined-valid, joins, joins_unique}

module _ (first second dst : List ℕ) where
  -- the checks of a merge, the destination's length included
  abbrev checks : List Check
  checks = merge_refusals first second ++ (7 when too_short dst (book_image (merged_entries first second)) ∷ [])

  -- books that have few enough names together, and a long enough destination
  accepts :
      is_book first ≡ true → is_book second ≡ true → length (merged_entries first second) ≤ max_entries
      → length (book_image (merged_entries first second)) ≤ length dst
      → (merge_books first second dst).answer ≡ given (reported (merged_entries first second))
  unfolding merge_books writing_image writing
  accepts a b few long =
      rw (
        read_not_old first a,
        read_not_old second b,
        a,
        b,
        le-ltb max_entries (length (merged_entries first second)) few,
        le-ltb (length dst) (length (book_image (merged_entries first second))) long,
      )

  -- an accepted merge
  module _ (x : WrittenCounts) (h : (merge_books first second dst).answer ≡ given x) where
    clears : (c : Check) → c ∈ checks → c.applies ≡ false
    unfolding merge_books writing_image writing
    clears c m = clear checks (reported (merged_entries first second)) x h c m

    both_valid : (valid (in_book first) ≡ true) × (valid (in_book second) ≡ true)
    both_valid =
        let others = not (is_book second) || false in
        let a = or_false (not (is_book first)) others (clears _ (inr (inl refl))) in
        let b = or_false (not (is_book second)) false a.1 in
        (valid_in first (not-false (is_book first) a.0), valid_in second (not-false (is_book second) b.0))

    chosen_valid : valid (merged_entries first second) ≡ true
    chosen_valid =
        joined-valid (in_book first) (in_book second) both_valid.0 both_valid.1
        (ltb-false max_entries (length (merged_entries first second)) (clears _ (inr (inr (inl refl)))))

    answer_is : (merge_books first second dst).answer ≡ given (reported (merged_entries first second))
    unfolding merge_books writing_image writing
    answer_is = h ∙ ap given (sym (given_is checks (reported (merged_entries first second)) x h))

    dest_is : (merge_books first second dst).dest ≡ overwrite dst (book_image (merged_entries first second))
    unfolding merge_books writing_image writing
    dest_is = rw h

    accepted : Merged first second (merge_books first second dst)
    accepted =
        let es = merged_entries first second in
        let r = (valid_of (in_book first) both_valid.0).order in
        let s = (valid_of (in_book second) both_valid.1).order in
        let rest = drop (length (book_image (merged_entries first second))) dst in
        record {
          joins = joins (in_book first) (in_book second) r s;
          only = λ fs j. joins_unique (in_book first) (in_book second) fs r s j;
          answered = answer_is;
          stands = rw dest_is (take-append_seam (book_image es) rest);
          offers_best = rw dest_is (offers_best_lem es (book_image es
              ++ rest) (read_book_of es rest chosen_valid) chosen_valid);
        }

  unchanged : (n : ℕ) → (merge_books first second dst).answer ≡ refused n → (merge_books first second dst).dest ≡ dst
  unfolding merge_books writing_image
  unchanged n h = refused-same checks (reported (merged_entries first second)) (book_image (merged_entries first second))
      dst n h

pub merged : MergedAll
merged first second dst =
    record {
      accepts = accepts first second dst;
      merges = accepted first second dst;
      unchanged = unchanged first second dst;
    }

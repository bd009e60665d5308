-- Two books joined into one (document 02, request a).
use Rattle.std.specs.Prelude.{ℕ, ◌≡◌, ◌⊎◌, false, true, List, [], ◌++◌, ◌∷◌, ltb, length}
use Rattle.octets.specs.Lists.{◌∈◌}
use Rattle.entries.specs.Entries.{Entry, holds, max_entries, rising, with}
use Rattle.answer.specs.Answers.{Check, Outcome, WrittenCounts, ◌when◌, writing_image}
use Rattle.book.specs.Book.{book_image, in_book}
use Rattle.book.specs.Checks.{book_checks}

-- the second's entries with each of the first's set in it, so that the first's score counts
abbrev pub joined : List Entry → List Entry → List Entry
joined [] second = second
joined (e ∷ first) second = with e (joined first second)

-- es joins the entries of first and second:
pub record Joins (first second es : List Entry) : Type 0 where
  -- no name stands in it twice; they are in name order
  pub once : rising es ≡ true
  -- every name of either stands in it; where both have it, the first's score counts
  pub of_first : (e : Entry) → e ∈ first → e ∈ es
  pub of_second : (e : Entry) → e ∈ second → holds e.name first ≡ false → e ∈ es
  -- nothing else does
  pub no_other : (e : Entry) → e ∈ es → (e ∈ first) ⊎ ((e ∈ second) × (holds e.name first ≡ false))

-- the entries chosen from two books
abbrev pub merged_entries : List ℕ → List ℕ → List Entry
merged_entries first second = joined (in_book first) (in_book second)

-- 10 covers both inputs, and then 1; more than 1,024 names gives 5
abbrev pub merge_refusals : List ℕ → List ℕ → List Check
merge_refusals first second =
    book_checks (first ∷ second ∷ []) ++ (5 when ltb max_entries (length (merged_entries first second)) ∷ [])

-- Merge reads two books and writes the book of the entries chosen at the front of a third buffer.
unfoldable pub merge_books : List ℕ → List ℕ → List ℕ → Outcome WrittenCounts
merge_books first second dst =
    let result = merged_entries first second in writing_image (merge_refusals first second) result (book_image result) dst

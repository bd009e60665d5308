-- The read-only calls on a book (document 01, "Sheet, finding, panel, program" and "Book image"), each as a function
-- from all that it is given and lent to its answer and the lent bytes afterwards.
use Rattle.std.specs.Prelude.{ℕ, ◌≡◌, Bool, ◌&&◌, not, List, [], ◌++◌, ◌∷◌, eqb, leb, ltb, length}
use Rattle.std.proofs.Math.Option.{Option, none, some}
use types.Run.{first}
use Rattle.octets.specs.Lists.{if◌then◌otherwise◌}
use Rattle.entries.specs.Completion.{matches, range_start}
use Rattle.entries.specs.Entries.{Entry, at, holds, position}
use Rattle.entries.specs.Names.{is_name, is_prefix}
use Rattle.answer.specs.Answers.{Answer, FoundCounts, Outcome, SpanCounts, WrittenCounts, ◌when◌, entry_bytes, given}
use Rattle.answer.specs.Answers.{on_answer, refused, unless, writing_image}
use Rattle.book.specs.Book.{in_book, reported}
use Rattle.book.specs.Checks.{book_checks}

-- finding: position and score, or none
unfoldable pub found_in : List ℕ → List Entry → Option FoundCounts
found_in w es = if holds w es then some (record { position = position w es; score = (at es (position w es)).score }) otherwise
    none

unfoldable pub find : List ℕ → List ℕ → Answer (Option FoundCounts)
find book w = unless (book_checks (book ∷ []) ++ (2 when not (is_name w) ∷ [])) (found_in w (in_book book))

-- name-at: the entry at a position, written as one answer entry
unfoldable pub name_at : List ℕ → ℕ → List ℕ → Outcome WrittenCounts
name_at book i dst =
    let e = at (in_book book) i in
    writing_image (book_checks (book ∷ []) ++ (6 when leb (length (in_book book)) i ∷ [])) (e ∷ []) (entry_bytes e) dst

-- name-at-by-name: the given name with its score, written as one answer entry
unfoldable pub name_of : List ℕ → List ℕ → List ℕ → Outcome WrittenCounts
name_of book w dst =
    let es = in_book book in
    let e = at es (position w es) in
    writing_image (book_checks (book ∷ []) ++ (2 when not (is_name w) ∷ 4 when not (holds w es) ∷ [])) (e ∷ [])
    (entry_bytes e) dst

-- prefix range: the first matching position (0 if there are none) and how many match
unfoldable pub prefix_range : List ℕ → List ℕ → Answer SpanCounts
prefix_range book p =
    let es = in_book book in
    unless (book_checks (book ∷ []) ++ (2 when not (is_prefix p) ∷ []))
    (record { first = range_start p es; count = length (matches p es) })

-- only bucket 0 of a book with entries has a head, the first name
abbrev pub has_head : List Entry → ℕ → Bool
has_head es j = eqb j 0 && ltb 0 (length es)

-- the companion of the head name: the name's length, apart from the refusal's number
unfoldable pub head_length : List ℕ → ℕ → Answer ℕ
head_length book j =
    let es = in_book book in
    unless (book_checks (book ∷ []) ++ (6 when not (has_head es j) ∷ [])) (length (at es 0).name)

-- the head name of a bucket, a part of the lent book: empty exactly where the companion refuses
unfoldable pub head_name : List ℕ → ℕ → List ℕ
head_name book j = on_answer (head_length book j) [] (at (in_book book) 0).name

-- What the head part and its companion promise of each other.
pub record HeadPart (book : List ℕ) (j : ℕ) : Type 0 where
  -- where the companion refuses, the part is empty
  pub empty : (n : ℕ) → head_length book j ≡ refused n → head_name book j ≡ []
  -- else the bucket is 0 and the part the first name
  pub first : (k : ℕ) → head_length book j ≡ given k → (j ≡ 0) × (head_name book j ≡ (at (in_book book) 0).name)
  -- the companion then gives the part's length, and the part is not empty
  pub whole : (k : ℕ) → head_length book j ≡ given k → (length (head_name book j) ≡ k) × (head_name book j ≡ [] → ⊥)

-- the check: 10 for an old book, 1 where the image is not laid out as a book's, or cut off by its buffer; else how many
-- entries it has and how many bytes
unfoldable pub check_book : List ℕ → Answer WrittenCounts
check_book book = unless (book_checks (book ∷ [])) (reported (in_book book))

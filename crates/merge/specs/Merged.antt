-- What a merge of two books promises (document 02, request a).
use Rattle.std.specs.Prelude.{◌≤◌, ℕ, ◌≡◌, true, List, length, take}
use Rattle.entries.specs.Entries.{Entry, max_entries}
use Rattle.answer.specs.Answers.{Outcome, WrittenCounts, given, refused}
use Rattle.book.specs.Book.{book_image, in_book, is_book, reported}
use Rattle.ledger.specs.Demand.{OffersBest}
use Rattle.merge.specs.Joined.{Joins, merge_books, merged_entries}

-- For the books first and second, and what an accepted merge of them answers and leaves:
pub record Merged (first second : List ℕ) (o : Outcome WrittenCounts) : Type 0 where
  -- the entries chosen join those of both books, and no others do
  pub joins : Joins (in_book first) (in_book second) (merged_entries first second)
  pub only : (es : List Entry) → Joins (in_book first) (in_book second) es → es ≡ merged_entries first second
  -- the answer is how many they are and the length of their image
  pub answered : o.answer ≡ given (reported (merged_entries first second))
  -- which stands at the front of the destination
  pub stands : take (length (book_image (merged_entries first second))) o.dest ≡ book_image (merged_entries first second)
  -- completion from it, and from the trie written from it, is best among them, as after edits
  pub offers_best : OffersBest (merged_entries first second) o.dest

-- For two buffers and a destination:
pub record Merging (first second dst : List ℕ) : Type 0 where
  -- books that have at most 1,024 names together are merged, with a long enough destination
  pub accepts :
      is_book first ≡ true → is_book second ≡ true → length (merged_entries first second) ≤ max_entries
      → length (book_image (merged_entries first second)) ≤ length dst
      → (merge_books first second dst).answer ≡ given (reported (merged_entries first second))
  -- an accepted merge answers and leaves what it should
  pub merges : (x : WrittenCounts) → (merge_books first second dst).answer ≡ given x
      → Merged first second (merge_books first second dst)
  -- a refused one changes nothing
  pub unchanged : (n : ℕ) → (merge_books first second dst).answer ≡ refused n → (merge_books first second dst).dest ≡ dst

abbrev pub MergedAll : Type 0
MergedAll = (first second dst : List ℕ) → Merging first second dst

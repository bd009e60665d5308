-- Request d, with the most names that can be asked for as a parameter: what stays the same under another limit, and how
-- many looks one allows.
use Rattle.std.specs.Prelude.{◌≤◌, ℕ, ◌≡◌, List, []}
use Rattle.entries.specs.Completion.{max_count}
use Rattle.entries.specs.Entries.{Entry}
use Rattle.answer.specs.Answers.{OfferedCounts, given}
use Rattle.completion.specs.Complete.{complete_book, complete_book_within}
use Rattle.trie.specs.Calls.{complete_trie, complete_trie_within}
use Rattle.program.specs.Program.{printed, top, top_within}

-- Who stays within both limits sees the same: the answer and the destination of a completion from a book and from a
-- trie, and so the list, its bytes and the looks; and the lines of `top`.
pub record SameWithin (limit limit' : ℕ) : Type 0 where
  pub from_book :
      (book p : List ℕ) (k : ℕ) (dst : List ℕ) (ranges : ℕ) → k ≤ limit → k ≤ limit'
      → complete_book_within limit book p k dst ranges ≡ complete_book_within limit' book p k dst ranges
  pub from_trie :
      (trie p : List ℕ) (k : ℕ) (dst : List ℕ) → k ≤ limit → k ≤ limit'
      → complete_trie_within limit trie p k dst ≡ complete_trie_within limit' trie p k dst
  pub printed_by_top :
      (k : ℕ) (p : List ℕ) (es : List Entry) → k ≤ limit → k ≤ limit'
      → top_within limit k p es ≡ top_within limit' k p es

-- So it is of the calls and the program as they are and as they were, for counts within nine: 16 was the limit before.
pub record AsUnderSixteen : Type 0 where
  pub from_book :
      (book p : List ℕ) (k : ℕ) (dst : List ℕ) (ranges : ℕ) → k ≤ max_count
      → complete_book book p k dst ranges ≡ complete_book_within 16 book p k dst ranges
  pub from_trie :
      (trie p : List ℕ) (k : ℕ) (dst : List ℕ) → k ≤ max_count
      → complete_trie trie p k dst ≡ complete_trie_within 16 trie p k dst
  pub printed_by_top :
      (k : ℕ) (p : List ℕ) (es : List Entry) → k ≤ max_count → printed (top k p) es ≡ top_within 16 k p es

-- `most` is the most looks that a completion from a book reports with this limit: none reports more, and one, which is
-- given here, as many.
pub record MostLooks (limit most : ℕ) : Type 0 where
  pub no_more :
      (book p : List ℕ) (k : ℕ) (dst : List ℕ) (ranges : ℕ) (c : OfferedCounts)
      → (complete_book_within limit book p k dst ranges).answer ≡ given c → c.looks ≤ most
  pub book : List ℕ
  pub k : ℕ
  pub dst : List ℕ
  pub counts : OfferedCounts
  pub answered : (complete_book_within limit book [] k dst k).answer ≡ given counts
  pub as_many : counts.looks ≡ most

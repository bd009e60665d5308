-- Taking a name out always works (document 02, request f): "A withdrawal into a buffer no shorter than the old image is
-- never refused 7".
use Rattle.std.specs.Prelude.{◌≤◌, ℕ, ◌≡◌, true, List, length}
use Rattle.octets.specs.Lists.{all}
use Rattle.entries.specs.Entries.{holds, without}
use Rattle.answer.specs.Answers.{WrittenCounts, given, refused}
use Rattle.book.specs.Book.{book_image, in_book, is_book, reported}
use Rattle.edit.specs.Edits.{empty_book, withdraw_entry}
use Rattle.ledger.specs.History.{buffers_after, call, started}
use Rattle.ledger.specs.Ledger.{Edit, score_fits, withdraw_name}

pub record WithdrawalFits : Type 0 where
  -- A name that a book holds is taken out of it, where the destination is no shorter than the book's image.
  pub taken_out :
      (book w dst : List ℕ) → is_book book ≡ true → holds w (in_book book) ≡ true
      → length (book_image (in_book book)) ≤ length dst
      → (withdraw_entry book w dst).answer ≡ given (reported (without w (in_book book)))
  -- So no withdrawal into such a destination is refused 7, of whatever name and from whatever buffer.
  pub never_seven :
      (book w dst : List ℕ) → length (book_image (in_book book)) ≤ length dst
      → (withdraw_entry book w dst).answer ≡ refused 7 → ⊥
  -- Nor is any of a history: for buffers a and b of L bytes, into the first of which "empty" was accepted, a withdrawal
  -- behind the calls h, whatever they are. A withdrawal within a history comes behind the calls before it.
  pub in_histories :
      (L : ℕ) (a b : List ℕ) (h : List Edit) → length a ≡ L → length b ≡ L
      → (x : WrittenCounts) → (empty_book a).answer ≡ given x → all score_fits h ≡ true
      → (w : List ℕ) → (call (withdraw_name w) (buffers_after h (started a b))).answer ≡ refused 7 → ⊥

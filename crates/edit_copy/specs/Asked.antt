-- What the two edits ask for.
use Rattle.std.specs.Prelude.{◌<◌, ℕ, ◌≡◌, false, true, List}
use Rattle.entries.specs.Entries.{holds, max_entries, names}
use Rattle.entries.specs.Names.{is_name}
use Rattle.book.specs.declared.Layout.{Layout}
use Rattle.book.specs.Book.{in_book_in, records_at}
use Rattle.book_laws.specs.Held.{HeldIn}
use Rattle.book_seek.specs.Seek.{Seeking}
use Rattle.book_seek.specs.declared.Seek.{Seek}

-- the name w was sought in a book without heads of n entries
pub record Sought (l : Layout) (book : List ℕ) (n : ℕ) (w : List ℕ) (s : Seek) : Type 0 where
  pub off : l.heads ≡ false
  pub held : HeldIn l book n
  pub found : Seeking w (records_at l n) (names (in_book_in l book)) s

-- it is allowed, it is not held, and there is room for one entry more
pub record Adds (l : Layout) (book : List ℕ) (n : ℕ) (w : List ℕ) (s : Seek) : Type 0 where
  pub sought : Sought l book n w s
  pub allowed : is_name w ≡ true
  pub absent : holds w (in_book_in l book) ≡ false
  pub room : n < max_entries

-- it is held
pub record Withdraws (l : Layout) (book : List ℕ) (n : ℕ) (w : List ℕ) (s : Seek) : Type 0 where
  pub sought : Sought l book n w s
  pub present : holds w (in_book_in l book) ≡ true

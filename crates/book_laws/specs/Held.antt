-- A buffer that was checked: what the functions below the front door ask of it.
use Rattle.std.specs.Prelude.{ℕ, ◌≡◌, true, List, length}
use Rattle.book.specs.declared.Layout.{Layout}
use Rattle.book.specs.Book.{in_book_in, is_book_in, today}

pub record HeldIn (l : Layout) (buf : List ℕ) (n : ℕ) : Type 0 where
  pub is_it : is_book_in l buf ≡ true
  pub count : n ≡ length (in_book_in l buf)

-- a book of today
abbrev pub Held : List ℕ → ℕ → Type 0
Held buf n = HeldIn today buf n

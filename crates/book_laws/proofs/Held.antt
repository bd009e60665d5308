-- What is known of a buffer that was checked.
use Prim.Native.Nat.{◌-◌, ◌≤◌, ℕ}
use mathlib.Core.List.{List}
use native.Mathlib.Omega.{arith}
use Rattle.entries.specs.Entries.{max_entries}
use Rattle.entries.proofs.Valid.{Valid, valid_of}
use Rattle.book.specs.declared.Layout.{Layout}
use Rattle.book.specs.Book.{in_book_in}
use Rattle.book_laws.specs.Held.{HeldIn}
use Rattle.book_laws.proofs.Stored.{StoredIn, stored}
use Rattle.book.proofs.Reading.{read_in_lem}

-- a book that was checked
module _ {l : Layout} {buf : List ℕ} {n : ℕ} (h : HeldIn l buf n) where
  pub held_stored : StoredIn l buf (in_book_in l buf)
  held_stored = stored l buf (in_book_in l buf) (read_in_lem l buf h.is_it)

  pub held-valid : Valid (in_book_in l buf)
  held-valid = valid_of (in_book_in l buf) held_stored.ok

  pub held_few : n ≤ max_entries
  held_few = omega (arith, h.count, held-valid.few)

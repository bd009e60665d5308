-- What stands where in a book that was checked, said of its entries.
use Prim.Native.Nat.{◌*◌, ◌<◌, ◌≤◌, ℕ}
use mathlib.Core.Path.{◌∙◌, ◌≡◌}
use mathlib.Core.Bool.{true}
use mathlib.Core.List.{List}
use lib.ListN.{length}
use Rattle.entries.specs.Entries.{Entry, at, max_entries, valid}
use Rattle.entries.proofs.Valid.{Valid}
use Rattle.book.specs.declared.Layout.{Layout}
use Rattle.book.specs.Book.{block_size, in_book, peak, today}
use Rattle.book_laws.specs.Check.{peak_at, score_at}
use Rattle.book_laws.specs.Held.{Held}
use Rattle.book_laws.proofs.Held.{held-valid, held_stored}
use Rattle.book_laws.proofs.Stored.{StoredIn}

-- es are the entries of the book in a buffer that was checked, n of them
module _ {buf : List ℕ} {n : ℕ} (h : Held buf n) {es : List Entry} (v : in_book buf ≡ es) where
  -- every number of their image is at its place, and they are those of a book
  pub entries_stored : StoredIn today buf es
  entries_stored = rw (← v) (held_stored h)

  pub entries_valid : Valid es
  entries_valid = rw (← v) (held-valid h)

  pub counted : n ≡ length es
  counted = rw (← v) h.count

  pub ok : valid es ≡ true
  ok = entries_stored.ok

  pub few : length es ≤ max_entries
  few = rw (← v) (held-valid h).few

  pub scored : {i s : ℕ} → i < length es → s ≡ score_at buf i → s ≡ (at es i).score
  scored {i} l e = e ∙ rw (← v) ((held_stored h).scored_at i (rw (← v) at l))

  pub peak_is : (j : ℕ) {p : ℕ} {l : Layout} → block_size * j < length es → l ≡ today → p ≡ peak_at l buf n j
      → p ≡ peak es j
  peak_is j l t e = e ∙ rw (t, ← v, h.count) ((held_stored h).peak_at j (rw (← v) at l))

-- The head name of a book with entries, by its place in the book.
use Prim.Native.Nat.{◌+◌, ◌-◌, ◌<◌, ◌≤◌, ℕ}
use mathlib.Core.Path.{◌∙◌, ◌≡◌, ap, refl, sym}
use mathlib.Core.List.{List}
use lib.ListN.{drop, get_or, length, take}
use native.Mathlib.Omega.{arith}
use Rattle.entries.specs.Entries.{Entry, at, max_entries}
use Rattle.book.specs.Book.{in_book, records_at, today}
use Rattle.book_laws.specs.Ahead.{record_at}
use Rattle.book_laws.specs.Held.{Held}
use Rattle.book_held.proofs.Places.{entries_stored}
use Rattle.book_laws.proofs.Standing.{own_there, record_inside, rest_there}

-- where the records begin is a small number
pub records_near : (n : ℕ) → n ≤ max_entries → records_at today n ≤ 4231
unfolding records_at
records_near n h = omega arith

-- the name w begins at an index, and the byte before says its length
pub record HeadAt (b w : List ℕ) (start : ℕ) : Type 0 where
  pub inside : start + length w ≤ length b
  pub len : get_or b (start - 1) 0 ≡ length w
  pub name : take (length w) (drop start b) ≡ w

pub held_head :
    {b : List ℕ} {es : List Entry} → Held b (length es) → in_book b ≡ es → 0 < length es
    → HeadAt b (at es 0).name (records_at today (length es) + 2)
held_head {b} {es} h v m =
    let s = entries_stored h v in
    let p : record_at es 0 + 2 ≡ records_at today (length es) + 2 = omega arith in
    let q : record_at es 0 + 1 ≡ records_at today (length es) + 2 - 1 = omega arith in
    let w = (at es 0).name in
    let z : length w - 0 ≡ length w = omega arith in
    record {
      inside = omega (arith, p, record_inside today b es s refl 0 m);
      len = ap (λ k. get_or b k 0) (sym q) ∙ own_there today b es s refl 0 m ∙ z;
      name = ap (λ k. take k (drop (records_at today (length es) + 2) b)) (sym z)
          ∙ ap (λ k. take (length w - 0) (drop k b)) (sym p)
          ∙ rest_there today b es s refl 0 m;
    }

-- A book half written: what stands in the buffer once the entries below a position are put.
use Prim.Native.Nat.{◌*◌, ◌+◌, ◌<◌, ◌≤◌, suc, ℕ}
use mathlib.Core.Path.{◌∙◌, ◌≡◌, refl, sym}
use mathlib.Core.Bool.{true}
use mathlib.Core.List.{List, []}
use lib.ListN.{drop, length, take}
use native.Mathlib.Nat.{add-zero}
use native.Mathlib.Omega.{arith}
use Rattle.octets.specs.Octets.{be, begins}
use Rattle.entries.specs.Entries.{Entry, at, names}
use Rattle.entries.specs.Names.{longest_name}
use Rattle.book_laws.specs.Check.{offset_start, score_start}
use Rattle.book_laws.specs.Cursor.{name_in}
use Rattle.book.specs.Records.{bucket_size, record_of, records}
use Rattle.book.specs.declared.Layout.{Layout}
use Rattle.book.specs.Book.{image_in, offset, records_at}
use Rattle.book_laws.specs.Ahead.{name_before, record_at_in}
use Rattle.book_laws.proofs.Front.{record_next}
use Rattle.book_laws.proofs.Stored.{front_within}
use Rattle.book_laws.specs.declared.Cursor.{Cursor}

pub record Partial (l : Layout) (es : List Entry) (d₀ : List ℕ) (c : Cursor) (d : List ℕ) : Type 0 where
  pub fits : length (image_in l es) ≤ length d
  pub same_length : length d ≡ length d₀
  pub untouched : drop (length (image_in l es)) d ≡ drop (length (image_in l es)) d₀
  pub index : c.index ≤ length es
  pub start : c.at ≡ record_at_in l es c.index
  pub name : name_in c ≡ name_before es c.index
  pub small : c.len ≤ longest_name
  pub scored : (k : ℕ) → k < c.index → begins (be 4 (at es k).score) (drop (score_start k) d) ≡ true
  pub bucketed :
      l.heads ≡ true → (j : ℕ) → bucket_size * j < c.index
      → begins (be 2 (offset l es j)) (drop (offset_start (length es) j) d) ≡ true
  pub recorded : begins (records l.heads 0 [] (take c.index (names es)))
      (drop (records_at l (length es)) d) ≡ true

-- before the first entry
pub partial_start :
    (l : Layout) (es : List Entry) (d : List ℕ) (c : Cursor) → length (image_in l es) ≤ length d
    → c.at ≡ records_at l (length es) → c.index ≡ 0 → c.len ≡ 0 → Partial l es d c d
partial_start l es d c h p q z =
    record {
      fits = h;
      same_length = refl;
      untouched = refl;
      index = rw q (omega arith);
      start = rw q (p ∙ sym (add-zero (records_at l (length es))));
      name = rw (q, z);
      small = rw z (omega arith);
      scored = λ k m. absurd (omega arith);
      bucketed = λ on j m. absurd (omega arith);
      recorded = rw q;
    }

-- the record of an entry lies within the image
pub record_within :
    (l : Layout) (es : List Entry) (i : ℕ) → i < length es
    → record_at_in l es i + length (record_of l.heads i (name_before es i) (at es i).name) ≤ length (image_in l es)
record_within l es i h = omega (arith, record_next l es i h, front_within l es (suc i))

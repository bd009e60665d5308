-- The next entry of a book: the first one, the one at a record that is read, and none.
use Prim.Native.Nat.{◌+◌, ◌-◌, ◌<◌, ◌≤◌, ℕ}
use mathlib.Core.Path.{◌∙◌, ◌≡◌, ap, refl, sym}
use mathlib.Core.Bool.{true}
use mathlib.Core.List.{List}
use lib.ListN.{drop, drop_of_length-le, length}
use lib.Seq.{get_or-drop}
use Rattle.std.proofs.Common.{add-zero}
use native.Mathlib.Omega.{arith}
use Rattle.entries.specs.Entries.{Entry, at, no_entry, valid}
use Rattle.entries.specs.Names.{longest_name}
use Rattle.book.specs.Book.{in_book, records_at, today}
use Rattle.book_laws.specs.Held.{Held}
use Rattle.book_read.specs.Record.{Inside, Read}
use Rattle.book_name.proofs.Poising.{Naming, naming_inner, naming-inside, naming_on, naming_short}
use Rattle.merge_read.specs.Turns.{Loaded, RecordStands}
use Rattle.book_laws.specs.declared.Parts.{Parts}
use Rattle.merge_read.specs.declared.NextInBook.{NextInBook}

abbrev next_of : ℕ → ℕ → ℕ → NextInBook
next_of i k len = record { index = i; at = k; len = len }

-- the entry at a position is the first of those left there
pub at_left : (es : List Entry) (i : ℕ) → at (drop i es) 0 ≡ at es i
at_left es i = let z : i + 0 ≡ i = omega arith in get_or-drop i es 0 no_entry ∙ rw z

pub at_past : (es : List Entry) (i : ℕ) → length es ≤ i → at es i ≡ no_entry
at_past es i h = sym (at_left es i) ∙ rw (drop_of_length-le es h)

pub stands_first :
    {es : List Entry} {k : ℕ} (name : List ℕ) → k ≡ records_at today (length es) → RecordStands es k 0 name
stands_first {es} name e = record { stands = e ∙ sym (add-zero (records_at today (length es))); keeps = λ h. refl }

module _ {es : List Entry} (ok : valid es ≡ true) {i k : ℕ} {name : List ℕ} (long : length name ≡ longest_name) where
  pub loaded_none : i ≤ length es → length es ≤ i → Loaded es (next_of i k 0) name
  loaded_none within over =
      record {
        ok = ok;
        within = within;
        long = long;
        small = omega arith;
        named = sym (ap (λ e. e.name) (at_past es i over));
        behind = λ l. absurd (omega arith);
      }

  -- the record is read from the buffer in which the book stands
  module _
      {book : List ℕ} (h : Held book (length es)) (v : in_book book ≡ es) (s : RecordStands es k i name)
      (low : i < length es)
    where
      naming : Naming es i i k i name 0
      naming = record {
        poised = s;
        long = long;
        from = omega arith;
        upto = omega arith;
        last = λ z. absurd (omega arith);
      }

      pub loaded_inside : Inside today.heads (drop k book) i (length name)
      loaded_inside = naming-inside h v naming low

      module _ {new : List ℕ} {p : Parts} (r : Read today.heads (drop k book) i name new p) where
        pub loaded_end : k + (p.start + p.own) ≤ length book
        loaded_end = naming_inner h v naming low r

        pub loaded_size_of : p.kept + p.own ≤ longest_name
        loaded_size_of = naming_short h v naming low r

        pub loaded_read : Loaded es (next_of i (k + (p.start + p.own)) (p.kept + p.own)) new
        loaded_read =
            let g = naming_on h v naming low r (omega arith) in
            let t = g.last (omega arith) in
            let y : i + 1 - 1 ≡ i = omega arith in
            record {
              ok = ok;
              within = omega arith;
              long = g.long;
              small = t.1;
              named = rw y at t.0;
              behind = λ l. record { stands = g.poised.stands; keeps = g.poised.keeps };
            }

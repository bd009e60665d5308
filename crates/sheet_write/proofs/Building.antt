-- The loops that build a book from a sheet: its size, and its bytes.
use Prim.Native.Nat.{◌+◌, ◌<◌, ◌≤◌, suc, ℕ}
use mathlib.Core.Path.{◌∙◌, ◌≡◌, ap, refl, subst, sym}
use mathlib.Core.Bool.{true}
use mathlib.Core.List.{List, [], ◌∷◌}
use lib.ListN.{drop, drop_of_length-le, get_or, length, length-append}
use lib.Seq.{drop-cons, take-length}
use native.Mathlib.Numerals.{add-one}
use native.Mathlib.Omega.{arith}
use Rattle.octets.specs.Octets.{begins, number_at, overwrite}
use Rattle.entries.specs.Entries.{Entry, at, names}
use Rattle.entries.proofs.Valid.{length-names, valid-all}
use Rattle.book.specs.Records.{record_of, records}
use Rattle.book_record_write.specs.Written.{Sized}
use Rattle.answer.specs.Answers.{entries_bytes}
use Rattle.book.specs.Book.{book_image, today, records_at}
use Rattle.book_laws.proofs.Ahead.{names_at}
use Rattle.book.proofs.Reading.{image_length}
use Rattle.book.proofs.Size.{book_length_lem}
use Rattle.book_write.specs.Calls.{EntryPut, PutRoom}
use Rattle.book_write.specs.Writing.{finished}
use Rattle.book_write.proofs.Calls.{finish_whole, partial_room, put_partial, slot_at, start_partial}
use Rattle.book_write.proofs.Partial.{Partial}
use Rattle.sheet_check.specs.Held.{HeldSheet}
use Rattle.sheet.specs.Sheet.{in_sheet}
use Rattle.sheet_write.proofs.Entries.{Here, here}
use Rattle.sheet_check.proofs.Held.{sheet_ok, sheet_stands}
use Rattle.sheet_check.proofs.RowLoop.{between}
use Rattle.book_laws.specs.declared.Cursor.{Cursor}

-- The size: the entries before position i are counted, the next stands at index k, and prev is the name before it.
pub record Sizing (sheet : List ℕ) (total k : ℕ) (prev : List ℕ) (i : ℕ) : Type 0 where
  pub stands : begins (entries_bytes (drop i (in_sheet sheet))) (drop k sheet) ≡ true
  pub left : total + length (records today.heads i prev (drop i (names (in_sheet sheet)))) ≡ length
      (book_image (in_sheet sheet))

pub size_start : {sheet : List ℕ} {n r : ℕ} → HeldSheet sheet n → r ≡ records_at today n → Sizing sheet r 7 [] 0
size_start {sheet} s e =
    record {
      stands = sheet_stands s;
      left = rw (e, s.count) (sym (image_length today (in_sheet sheet)));
    }

module _
    {sheet : List ℕ} {n : ℕ} (s : HeldSheet sheet n) {total k : ℕ} {prev : List ℕ} {i : ℕ}
    (g : Sizing sheet total k prev i)
  where
    abbrev es : List Entry
    es = in_sheet sheet

    pub size_end : n ≤ i → total ≡ length (book_image es)
    size_end h =
        let z = rw (drop_of_length-le (names es) {i = i} (omega (arith, length-names es, s.count))) at g.left in
        omega arith

    pub size_small : total ≤ 55559
    size_small = omega (arith, g.left, book_length_lem today es (sheet_ok s))

    module _ (l : i < n) where
      low : i < length es
      low = omega (arith, s.count)

      pub size_here : Here sheet es i k
      size_here = here sheet es (valid-all es (sheet_ok s)) i k low g.stands

      pub size_turn :
          {r : ℕ} → Sized (record_of today.heads i prev (between (k + 1) (k + 1 + get_or sheet k 0) sheet)) r
          → Sizing sheet (total + r) (k + 1 + get_or sheet k 0 + 4)
          (between (k + 1) (k + 1 + get_or sheet k 0) sheet) (i + 1)
      size_turn {r} z =
          let w = (at es i).name in
          let ws = drop (suc i) (names es) in
          let q : drop i (names es) ≡ w ∷ ws = drop-cons (names es) i [] (omega (arith, length-names es, low))
          ∙ rw (names_at es i low) in
          let m = rw (q, length-append (record_of today.heads i prev w) (records today.heads (suc i) w ws)) at
          g.left in
          let o : r ≡ length (record_of today.heads i prev w) = rw size_here.name at z.long in
          record {
            stands = size_here.next;
            left = rw (size_here.name, add-one) (omega arith);
          }

-- The bytes: the entries before position i are put, and the next record goes to index m; the next entry of the sheet
-- stands at index k, and prev is the name before it.
abbrev cursor : ℕ → List ℕ → ℕ → Cursor
cursor m prev i = record { at = m; index = i; name = prev; len = length prev }

pub record Filling (sheet d₀ : List ℕ) (m k : ℕ) (prev : List ℕ) (i : ℕ) (d : List ℕ) : Type 0 where
  pub stands : begins (entries_bytes (drop i (in_sheet sheet))) (drop k sheet) ≡ true
  pub put : Partial today (in_sheet sheet) d₀ (cursor m prev i) d

pub fill_start :
    {sheet : List ℕ} {n m : ℕ} {d : List ℕ} → HeldSheet sheet n → length (book_image (in_sheet sheet)) ≤ length d
    → m ≡ records_at today n
    → Filling sheet d m 7 [] 0 d
fill_start {sheet} {d = d} s room e =
    record {
      stands = sheet_stands s;
      put = start_partial today (in_sheet sheet) d s.count room (record { at = e; index = refl; len = refl });
    }

module _
    {sheet : List ℕ} {n : ℕ} (s : HeldSheet sheet n) {d₀ : List ℕ} {m k : ℕ} {prev : List ℕ} {i : ℕ} {d : List ℕ}
    (g : Filling sheet d₀ m k prev i d)
  where
    pub fill_end :
        {total : ℕ} → n ≤ i → total ≡ length (book_image (in_sheet sheet))
        → finished today total n d ≡ overwrite d₀ (book_image (in_sheet sheet))
    fill_end h e = finish_whole g.put s.count (sheet_ok s) (omega (arith, s.count, g.put.index)) e

    module _ (h : i < n) where
      before : i < length (in_sheet sheet)
      before = omega (arith, s.count)

      pub fill_here : Here sheet (in_sheet sheet) i k
      fill_here = here sheet (in_sheet sheet) (valid-all (in_sheet sheet) (sheet_ok s)) i k before g.stands

      -- the name at index k
      abbrev called : List ℕ
      called = between (k + 1) (k + 1 + get_or sheet k 0) sheet

      pub fill_room : PutRoom (slot_at today n (cursor m prev i)) d prev called
      fill_room = rw take-length at (partial_room g.put s.count before fill_here.name (sheet_ok s))

      pub fill_turn :
          {v r : ℕ} {new : List ℕ} → v ≡ number_at 4 sheet (k + 1 + get_or sheet k 0)
          → EntryPut (slot_at today n (cursor m prev i)) d new prev called v r
          → Filling sheet d₀ r (k + 1 + get_or sheet k 0 + 4) called (i + 1) new
      fill_turn {v} {r} {new} e p =
          record {
            stands = fill_here.next;
            put =
                put_partial g.put s.count before fill_here.name
                {r = cursor r called (i + 1)}
                (e ∙ fill_here.score)
                (subst (λ u. EntryPut (slot_at today n (cursor m prev i)) d new u called v r) (sym (take-length prev))
                p)
                refl refl (take-length called) (omega (arith, ap length fill_here.name, fill_here.short));
          }

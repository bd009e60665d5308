-- The loops that list a book into a sheet: its size, and its bytes.
use Prim.Native.Nat.{◌*◌, ◌+◌, ◌<◌, ◌≤◌, ℕ}
use mathlib.Core.Path.{◌∙◌, ◌≡◌, ap, refl, sym}
use mathlib.Core.Bool.{true}
use mathlib.Core.List.{List, ◌++◌}
use lib.ListN.{drop, drop_of_length-le, length, length-append, replicate, take}
use lib.Seq.{drop-cons, length-sets, sets}
use native.Mathlib.Numerals.{add-one}
use native.Mathlib.Omega.{arith}
use Rattle.octets.specs.Octets.{overwrite}
use Rattle.octets.proofs.Stores.{sets-append, sets-overwrite}
use Rattle.entries.specs.Entries.{Entry, at, entry, max_entries, no_entry, valid}
use Rattle.entries.specs.Names.{longest_name}
use Rattle.entries.proofs.Valid.{valid_of}
use Rattle.answer.specs.Answers.{entries_bytes, entry_bytes}
use Rattle.book.specs.Book.{in_book, today, records_at}
use Rattle.frame.specs.Frame.{framed}
use Rattle.book_laws.specs.Held.{Held}
use Rattle.frame.proofs.Frame.{framed-length}
use Rattle.frame_code.specs.Stored.{put_frame}
use Rattle.frame_code.proofs.Stored.{frame_stores}
use Rattle.answer.proofs.Entries.{entries_bytes_most, length-entry_bytes}
use Rattle.book_held.proofs.Places.{counted, ok}
use Rattle.book_read.specs.Record.{Inside, Read, own_bytes, parts_at}
use Rattle.book_read.proofs.Reading.{Given, Reading, read_inside, read_start, read_turn}
use Rattle.sheet.specs.Sheet.{sheet_image}
use Rattle.book_laws.specs.declared.Parts.{Parts}

-- the sheet of a book's entries is the frame, and at most 53 bytes for each entry
pub sheet_length_lem :
    (es : List Entry) → valid es ≡ true
    → (7 ≤ length (sheet_image es)) × (length (sheet_image es) ≤ 7 + 53 * max_entries)
unfolding sheet_image
sheet_length_lem es ok =
    let v = valid_of es ok in
    let l = framed-length 0x11 (length es) (entries_bytes es) in
    (omega arith, omega (arith, entries_bytes_most es v.allowed, v.few))

-- the bytes of the entries from a position on: the entry there, and those behind it
module _ (es : List Entry) (i : ℕ) (h : i < length es) where
  rest_bytes : entries_bytes (drop i es) ≡ entry_bytes (at es i) ++ entries_bytes (drop (i + 1) es)
  unfolding entries_bytes
  rest_bytes = rw (add-one, drop-cons es i no_entry h)

  rest_length :
      length (entries_bytes (drop i es)) ≡ 5 + length (at es i).name + length (entries_bytes (drop (i + 1) es))
  rest_length = rw (rest_bytes, length-append, length-entry_bytes)

-- The size: what is counted, with the entries from position i on, is the whole sheet; the next record starts at index
-- k of the book's image.
pub record Measuring (image : List ℕ) (es : List Entry) (total k i : ℕ) : Type 0 where
  pub name : List ℕ
  pub reading : Reading image k i name
  pub left : total + length (entries_bytes (drop i es)) ≡ length (sheet_image es)

-- The bytes: what is written, with the entries from position i on written from index m on, is d₀ with all entries
-- behind the frame; the next record starts at index k of the book's image, behind the name in name.
pub record Writing (image : List ℕ) (es : List Entry) (d₀ name : List ℕ) (k m i : ℕ) (d : List ℕ) : Type 0 where
  pub reading : Reading image k i name
  pub same_length : length d ≡ length d₀
  pub room : m + length (entries_bytes (drop i es)) ≤ length d₀
  pub left : sets d m (entries_bytes (drop i es)) ≡ sets d₀ 7 (entries_bytes es)

-- es are the entries of the book in a buffer that was checked
module _ {image : List ℕ} {n : ℕ} (held : Held image n) {es : List Entry} (v : in_book image ≡ es) where
  start_here : {k : ℕ} (name : List ℕ) → k ≡ records_at today (length es) → length name ≡ longest_name
      → Reading image k 0 name
  start_here name e l = read_start name held (rw (counted held v) e) l

  -- the record at a position can be read, and is one of the book's
  pub inside : {k i : ℕ} {name : List ℕ} → Reading image k i name → i < length es
      → Inside today.heads (drop k image) i (length name)
  inside g h = read_inside held g (omega (arith, counted held v, h))

  pub given :
      {k i : ℕ} {name new : List ℕ} {p : Parts} → Reading image k i name → i < length es
      → Read today.heads (drop k image) i name new p → Given image k i new p
  given g h = read_turn held g (omega (arith, counted held v, h))

  pub measure_start : {k : ℕ} → k ≡ records_at today (length es) → Measuring image es 7 k 0
  unfolding sheet_image
  measure_start e =
      record {
        name = replicate longest_name 0;
        reading = start_here (replicate longest_name 0) e refl;
        left = sym (framed-length 0x11 (length es) (entries_bytes es));
      }

  module _ {total k i : ℕ} (g : Measuring image es total k i) where
    pub measure_small : total ≤ 7 + 53 * max_entries
    measure_small = omega (arith, g.left, (sheet_length_lem es (ok held v)).1)

    pub measure_end : length es ≤ i → total ≡ length (sheet_image es)
    unfolding entries_bytes
    measure_end h = let z = rw (drop_of_length-le es {i = i} h) at g.left in omega arith

    module _ (h : i < length es) where
      pub measure_two : 2 ≤ length (drop k image)
      measure_two = (inside g.reading h).two

      module _ {p : Parts} (e : p ≡ parts_at today.heads i (drop k image)) where
        measured : Given image k i (sets g.name p.kept (own_bytes (drop k image) p)) p
        measured = given g.reading h (record { parts = e; bytes = refl })

        pub measure_room : (p.kept + p.own ≤ longest_name) × (k + (p.start + p.own) ≤ length image)
        measure_room = (measured.small, measured.inside)

        long : p.kept + p.own ≡ length (at es i).name
        long = measured.long ∙ rw v

        pub measure_turn : Measuring image es (total + (5 + p.kept + p.own)) (k + (p.start + p.own)) (i + 1)
        measure_turn =
            record {
              name = sets g.name p.kept (own_bytes (drop k image) p);
              reading = measured.next;
              left = omega (arith, g.left, rest_length es i h, long);
            }

  pub write_start :
      {k : ℕ} (name : List ℕ) {d : List ℕ} → k ≡ records_at today (length es) → length name ≡ longest_name
      → length (sheet_image es) ≤ length d → Writing image es d name k 7 0 d
  unfolding sheet_image
  write_start name e l room =
      record {
        reading = start_here name e l;
        same_length = refl;
        room = omega (arith, framed-length 0x11 (length es) (entries_bytes es));
        left = refl;
      }

  module _ {d₀ name : List ℕ} {k m i : ℕ} {d : List ℕ} (g : Writing image es d₀ name k m i d) where
    all_written : length es ≤ i → d ≡ sets d₀ 7 (entries_bytes es)
    unfolding entries_bytes
    all_written h = rw (drop_of_length-le es {i = i} h) at g.left

    pub write_end :
        length es ≤ i → (d₁ : List ℕ) {total : ℕ} → total ≡ length (sheet_image es) → total ≤ length d₁
        → d₀ ≡ put_frame 0x11 total (length es) d₁ → d ≡ overwrite d₁ (sheet_image es)
    unfolding sheet_image
    write_end h d₁ {total} e room p =
        let body = entries_bytes es in
        let l = framed-length 0x11 (length es) (entries_bytes es) in
        all_written h
        ∙ rw p (frame_stores 0x11 d₁ body total (length es) (omega arith))
        ∙ sets-overwrite d₁ (framed 0x11 (length es) body) (omega arith)

    module _ (h : i < length es) {new : List ℕ} {p : Parts} (s : Given image k i new p) where
      name_is : take (p.kept + p.own) new ≡ (at es i).name
      name_is = s.name ∙ rw v

      pub write_room : m + 5 + (p.kept + p.own) ≤ length d
      write_room =
          let e : p.kept + p.own ≡ length (at es i).name = s.long ∙ rw v in
          omega (arith, g.room, g.same_length, rest_length es i h, e)

      pub write_turn :
          {score : ℕ} {d' : List ℕ} → score ≡ (at es i).score
          → d' ≡ sets d m (entry_bytes (entry (take (p.kept + p.own) new) score))
          → Writing image es d₀ new (k + (p.start + p.own)) (m + 5 + length (take (p.kept + p.own) new)) (i + 1) d'
      write_turn {score} q w =
          let f = at es i in
          let rest = entries_bytes (drop (i + 1) es) in
          let x : entry (take (p.kept + p.own) new) score ≡ f = rw (name_is, q) in
          let z : m + 5 + length (take (p.kept + p.own) new) ≡ m + length (entry_bytes f) = omega (
            arith,
            length-entry_bytes f,
            ap length name_is,
          ) in
          record {
            reading = s.next;
            same_length = rw w (simp length-sets g.same_length);
            room = omega (arith, g.room, rest_length es i h, ap length name_is);
            left = rw (w, x, z, sets-append d (entry_bytes f) rest m, ← rest_bytes es i h) g.left;
          }

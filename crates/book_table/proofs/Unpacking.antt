-- The loop that unpacks a book: the rows before a position hold its entries.
use Prim.Native.Nat.{◌*◌, ◌+◌, ◌<◌, ◌≤◌, suc, ℕ}
use mathlib.Core.Path.{◌∙◌, ◌≡◌, ap, refl}
use mathlib.Core.Logic.{inl}
use mathlib.Core.Bool.{true}
use mathlib.Core.List.{List, map}
use lib.Dec.{ltb}
use lib.ListN.{drop, get_or, length, length-set, set, take}
use lib.Seq.{get_or-set_other, get_or-set_same, get_or-take, length-sets, length-take-le, sets}
use native.Mathlib.Omega.{arith}
use borrow.Author.Tests.{ltb-false, ltb-true}
use Rattle.octets.specs.Lists.{count_from}
use Rattle.octets.specs.Octets.{begins}
use Rattle.octets.proofs.Lists.{map-count}
use Rattle.octets.proofs.Order.{begins-take, front_of_lem}
use Rattle.octets.proofs.Stores.{sets-stands, stays}
use Rattle.octets.proofs.Tests.{by_test}
use Rattle.entries.specs.Entries.{Entry, at, entry, no_entry}
use Rattle.entries.specs.Names.{longest_name}
use Rattle.entries.proofs.Same.{entry_eq}
use Rattle.entries.proofs.Valid.{name_length}
use Rattle.book.specs.Book.{in_book, today, records_at}
use Rattle.book_laws.specs.Held.{Held}
use Rattle.book_laws.proofs.Standing.{name_allowed}
use Rattle.book_held.proofs.Places.{counted, entries_valid, few}
use Rattle.book_read.specs.Record.{Read}
use Rattle.book_read.proofs.Reading.{Given, Reading, read_start, read_turn}
use Rattle.book_table.specs.Table.{TableRoom, Unpacked, entries, row_at}
use Rattle.book_laws.specs.declared.Parts.{Parts}

-- row p holds the entry at position p
pub record Row (es : List Entry) (u m sc : List ℕ) (p : ℕ) : Type 0 where
  pub long : get_or m p 0 ≡ length (at es p).name
  pub stands : begins (at es p).name (drop (p * longest_name) u) ≡ true
  pub score : get_or sc p 0 ≡ (at es p).score

-- the rows before position i hold their entries; the next record starts at index k, behind the name in name
pub record Unpacking (image : List ℕ) (es : List Entry) (u₀ m₀ sc₀ u m sc name : List ℕ) (k i : ℕ) : Type 0 where
  pub reading : Reading image k i name
  pub room : TableRoom (length es) (length u) (length m) (length sc)
  pub same_names : length u ≡ length u₀
  pub same_lens : length m ≡ length m₀
  pub same_scores : length sc ≡ length sc₀
  pub rows : (p : ℕ) → p < i → Row es u m sc p

-- es are the entries of the book in a buffer that was checked
module _ {image : List ℕ} {n : ℕ} (held : Held image n) {es : List Entry} (v : in_book image ≡ es) where
  pub unpack_start :
      {k : ℕ} {u m sc : List ℕ} (name : List ℕ) → TableRoom (length es) (length u) (length m) (length sc)
      → k ≡ records_at today (length es) → length name ≡ longest_name → Unpacking image es u m sc u m sc name k 0
  unpack_start name r e l =
      record {
        reading = read_start name held (rw (counted held v) e) l;
        room = r;
        same_names = refl;
        same_lens = refl;
        same_scores = refl;
        rows = λ p h. absurd (omega arith);
      }

  -- the record at a position is read
  pub given :
      {k i : ℕ} {name new : List ℕ} {q : Parts} → Reading image k i name → i < length es
      → Read today.heads (drop k image) i name new q → Given image k i new q
  given g h = read_turn held g (omega (arith, counted held v, h))

  short : (p : ℕ) → p < length es → length (at es p).name ≤ longest_name
  short p h = name_length (at es p).name (name_allowed es (entries_valid held v) p h)

  module _
      {u₀ m₀ sc₀ u m sc name : List ℕ} {k i : ℕ} (g : Unpacking image es u₀ m₀ sc₀ u m sc name k i)
    where
      -- a turn: the row of the next entry is stored, those before it stay
      pub unpack_turn :
          i < length es → {new : List ℕ} {q : Parts} → Given image k i new q → {s : ℕ} → s ≡ (at es i).score
          → {u' : List ℕ} → u' ≡ sets u (i * longest_name) new
          → Unpacking image es u₀ m₀ sc₀ u' (set m i (q.kept + q.own)) (set sc i s) new (k + (q.start + q.own)) (i + 1)
      unpack_turn h {new} {q} r {s} score {u'} w =
          let e = ap length w ∙ length-sets u (i * longest_name) new in
          record {
            reading = r.next;
            room = record {
              rows = omega (arith, e, g.room.rows);
              counted = rw length-set g.room.counted;
              scored = rw length-set g.room.scored;
            };
            same_names = e ∙ g.same_names;
            same_lens = rw length-set g.same_lens;
            same_scores = rw length-set g.same_scores;
            rows = λ p z. which p (omega arith);
          }
        where
          fits : i * longest_name + length new ≤ length u
          fits = omega (arith, g.room.rows, r.next.long)

          there : Row es u' (set m i (q.kept + q.own)) (set sc i s) i
          there =
              record {
                long = get_or-set_same m i (q.kept + q.own) 0 (omega (arith, g.room.counted)) ∙ r.long ∙ rw v;
                stands =
                    rw (w, ← v, ← r.name)
                    (begins-take (q.kept + q.own) new (drop (i * longest_name) (sets u (i * longest_name) new))
                    (sets-stands u new (i * longest_name) fits));
                score = get_or-set_same sc i s 0 (omega (arith, g.room.scored)) ∙ score;
              }

          old : (p : ℕ) → p < i → Row es u' (set m i (q.kept + q.own)) (set sc i s) p
          old p z =
              let o = g.rows p z in
              record {
                long = get_or-set_other m i p (q.kept + q.own) 0 (λ e. omega arith) ∙ o.long;
                stands = rw w (stays u new (i * longest_name) fits (at es p).name (p * longest_name)
                    (inl (omega (arith, short p (omega arith)))) o.stands);
                score = get_or-set_other sc i p s 0 (λ e. omega arith) ∙ o.score;
              }

          which : (p : ℕ) → p < suc i → Row es u' (set m i (q.kept + q.own)) (set sc i s) p
          which p z =
              by_test (ltb p i) (λ t. old p (ltb-true p i t))
              (λ t. let a = ltb-false p i t in let e : p ≡ i = omega (arith, a) in rw e there)

      -- the end: the first rows are the entries
      pub unpack_end : length es ≤ i → Unpacked es u m sc
      unfolding entries
      unpack_end h =
          let m' = take (length es) m in
          let l : length m' ≡ length es = length-take-le (length es) m g.room.counted in
          let len : (p : ℕ) → p < length es → get_or m' p 0 ≡ length (at es p).name =
          λ p k. get_or-take (length es) m p 0 k ∙ (g.rows p (omega arith)).long in
          record {
            table =
                record {
                  rows = omega (arith, l, g.room.rows);
                  scored = omega (arith, l, g.room.scored);
                  few = omega (arith, l, few held v);
                  short = λ p k. omega (arith, len p (omega arith), short p (omega arith));
                };
            same =
                ap (λ k. map (row_at u m' sc) (count_from 0 k)) l
                ∙ map-count no_entry (row_at u m' sc) 0 es (λ p k. row p k (len p k));
          }
        where
          row :
              (p : ℕ) → p < length es → get_or (take (length es) m) p 0 ≡ length (at es p).name
              → row_at u (take (length es) m) sc (0 + p) ≡ at es p
          row p k e =
              let r = g.rows p (omega arith) in
              let z : 0 + p ≡ p = omega arith in
              rw (z, e) (entry_eq (entry (take (length (at es p).name) (drop (p * longest_name) u)) (get_or sc p 0))
              (at es p) (front_of_lem (at es p).name (drop (p * longest_name) u) r.stands) r.score)

-- The entries offered, written one after the other.
use Prim.Native.Nat.{◌*◌, ◌+◌, ◌<◌, ◌≤◌, suc, ℕ}
use mathlib.Core.Path.{◌∙◌, ◌≡◌, ap, refl, sym}
use mathlib.Core.Bool.{true}
use mathlib.Core.List.{List, [], ◌++◌}
use lib.ListN.{drop, drop_of_length-le, get_or, length, length-append, length-map, take}
use lib.Seq.{drop-cons, length-sets, length-take-le, sets}
use native.Mathlib.Nat.{add-zero}
use native.Mathlib.Omega.{arith}
use Rattle.octets.specs.Octets.{overwrite}
use Rattle.octets.proofs.Lists.{get_in}
use Rattle.octets.proofs.Order.{front_of_lem}
use Rattle.octets.proofs.Stores.{sets-append, sets-overwrite}
use Rattle.entries.specs.Completion.{max_count}
use Rattle.entries.specs.Entries.{Entry, at, valid}
use Rattle.entries.specs.Names.{longest_name}
use Rattle.answer.specs.Answers.{entries_bytes, entry_bytes}
use Rattle.book_laws.specs.declared.Cursor.{Cursor}
use Rattle.book_name.specs.Poised.{Starts}
use Rattle.book_rows.specs.Rows.{Fillable, Filled, RowRoom}
use Rattle.book_rows.proofs.Filling.{short_lem}
use Rattle.book_rows.proofs.Matching.{fillable_primed}
use Rattle.answer.proofs.Entries.{length-entry_bytes}
use Rattle.completion.specs.Complete.{entry_room, offered_as}
use Rattle.completion_turn.specs.declared.Progress.{Progress}
use Rattle.completion_book.specs.Offers.{Writable, Written, entries_at}
use Rattle.completion_turn.specs.Turns.{so_far}

-- an entry such as a book may have is written within the room for one
entry_small : (es : List Entry) → valid es ≡ true → (i : ℕ) → i < length es
    → length (entry_bytes (at es i)) ≤ entry_room
entry_small es ok i l = omega (arith, length-entry_bytes (at es i), short_lem es ok i l)

-- the entries at the positions is from the i-th on, written at `end` into what the ones before have left, give what is
-- to be written
pub record PutLeft (es : List Entry) (dst₀ is dst : List ℕ) (end i : ℕ) : Type 0 where
  pub rest :
      sets dst end (entries_bytes (entries_at es (drop i is))) ≡ sets dst₀ 0 (entries_bytes (entries_at es is))
  pub size : end + length (entries_bytes (entries_at es (drop i is))) ≡ length (entries_bytes (entries_at es is))
  pub low : end ≤ entry_room * i
  pub high : i ≤ length is
  pub same : length dst ≡ length dst₀

pub put_start : (es : List Entry) (dst₀ is : List ℕ) → PutLeft es dst₀ is dst₀ 0 0
put_start es dst₀ is = record { rest = refl; size = omega arith; low = omega arith; high = omega arith; same = refl }

-- the positions is, with their names in rows
module _ {es : List Entry} {is rows lens dst₀ : List ℕ} (w : Written es is rows lens dst₀) where
  module _ {dst : List ℕ} {end i : ℕ} (p : PutLeft es dst₀ is dst end i) where
    module _ (t : i < length is) where
      abbrev position : ℕ
      position = get_or is i 0

      abbrev name : List ℕ
      name = (at es (get_or is i 0)).name

      pub put_inside : position < length es
      put_inside = w.inside position (get_in 0 is i t)

      -- its row
      pub row_long : get_or lens i 0 ≡ length name
      row_long = (w.filled.row i t).long

      pub row_short : get_or lens i 0 ≤ longest_name
      row_short = omega (arith, row_long, short_lem es w.entries position put_inside)

      pub row_inside : i * longest_name + get_or lens i 0 ≤ length rows
      row_inside = omega (arith, row_short, w.row_room.named)

      pub row_name_lem : take (get_or lens i 0) (drop (i * longest_name) rows) ≡ name
      row_name_lem = rw row_long (front_of_lem name (drop (i * longest_name) rows) (w.filled.row i t).stands)

      pub put_room : end + entry_room ≤ length dst
      put_room = omega (arith, p.low, p.same, w.room)

      split : entries_bytes (entries_at es (drop i is)) ≡ entry_bytes (at es position)
          ++ entries_bytes (entries_at es (drop (i + 1) is))
      unfolding entries_bytes
      split = let z : i + 1 ≡ suc i = omega arith in rw (drop-cons is i 0 t, z)

      pub put_turn :
          {dst' : List ℕ} {end' : ℕ} → dst' ≡ sets dst end (entry_bytes (at es position))
          → end' ≡ end + length (entry_bytes (at es position))
          → PutLeft es dst₀ is dst' end' (i + 1)
      put_turn {dst'} {end'} d e =
          let b = entry_bytes (at es position) in
          let r = entries_bytes (entries_at es (drop (i + 1) is)) in
          let q = ap length split ∙ length-append b r in
          let small = entry_small es w.entries position put_inside in
          record {
            rest = rw (d, e) (sets-append dst b r end ∙ ap (sets dst end) (sym split) ∙ p.rest);
            size = omega (arith, p.size);
            low = omega (arith, p.low);
            high = omega arith;
            same = ap length d ∙ length-sets dst end b ∙ p.same;
          }

    -- none is left
    pub put_end :
        length is ≤ i → (dst ≡ overwrite dst₀ (entries_bytes (entries_at es is)))
        × (end ≡ length (entries_bytes (entries_at es is)))
    unfolding entries_bytes
    put_end c =
        let n : drop i is ≡ [] = drop_of_length-le is {i = i} c in
        let e : end ≡ length (entries_bytes (entries_at es is)) = sym (add-zero end) ∙ (rw n at p.size) in
        let r : dst ≡ sets dst₀ 0 (entries_bytes (entries_at es is)) = rw n at p.rest in
        (r ∙ sets-overwrite dst₀ (entries_bytes (entries_at es is)) (omega (arith, p.low, p.high, w.room)), e)

-- the positions offered by a machine that has run
module _ {es : List Entry} {prefix dst : List ℕ} {s : Progress} (w : Writable es prefix dst s)
    (long : length s.offered ≡ max_count)
  where
    pub counted : length (so_far s) ≡ s.count
    counted = length-take-le s.count s.offered (omega (arith, w.few))

    -- their names can be unpacked from the first match on
    pub offered_fillable : valid es ≡ true → {c : Cursor} → Starts prefix s.first s.from c → Fillable es c (so_far s)
    offered_fillable ok st =
        fillable_primed es ok prefix st w.first w.from (so_far s)
        (λ j h.
        let m = get_in 0 (so_far s) j h in
        (w.inside (get_or (so_far s) j 0) m, w.matching (get_or (so_far s) j 0) m))

    pub offered_room : RowRoom (length (so_far s)) (longest_name * max_count) max_count
    offered_room = record { named = omega (arith, counted, w.few); counted = omega (arith, counted, w.few) }

    pub offered_written :
        valid es ≡ true → {rows lens : List ℕ} → length rows ≡ longest_name * max_count → length lens ≡ max_count
        → Filled es (so_far s) rows lens → Written es (so_far s) rows lens dst
    offered_written ok r l f =
        record {
          entries = ok;
          inside = w.inside;
          filled = f;
          row_room = rw (r, l) offered_room;
          few = omega (arith, counted, w.few);
          room = omega (arith, counted, w.room);
        }

    -- the counts that are reported
    pub offered_counts :
        {bytes : ℕ} → bytes ≡ length (entries_bytes (entries_at es (so_far s))) → (looks : ℕ)
        → record {
          offered = s.count;
          bytes = bytes;
          looks = looks;
        } ≡ offered_as (entries_at es (so_far s)) looks
    offered_counts b looks = rw (b, length-map (so_far s) (at es), counted)

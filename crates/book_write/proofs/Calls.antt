-- For a caller that puts the n entries es one after the other: what `start` gives is a book half written, which has
-- room for the next entry; each call keeps it so, and once all are put `finish` leaves the image.
use Prim.Native.Nat.{◌+◌, ◌<◌, ◌≤◌, ℕ}
use mathlib.Core.Path.{◌∙◌, ◌≡◌, ap, subst, sym}
use mathlib.Core.Bool.{true}
use mathlib.Core.List.{List}
use lib.ListN.{length, take}
use lib.Seq.{sets}
use native.Mathlib.Omega.{arith}
use Rattle.octets.specs.Octets.{overwrite}
use Rattle.octets.proofs.Lists.{at_all}
use Rattle.entries.specs.Entries.{Entry, at, no_entry, valid}
use Rattle.entries.specs.Names.{is_name, longest_name}
use Rattle.entries.proofs.Valid.{name_length, valid_of}
use Rattle.book_laws.specs.Cursor.{name_in}
use Rattle.book.specs.Records.{record_of}
use Rattle.octets.proofs.Stores.{take-sets}
use Rattle.book.specs.declared.Layout.{Layout}
use Rattle.book.specs.Book.{image_in, records_at}
use Rattle.book_write.specs.declared.Slot.{Slot}
use Rattle.book.proofs.Size.{book_length_lem}
use Rattle.book_write.specs.Calls.{EntryPut, PutRoom, Started}
use Rattle.book_write.specs.Writing.{finished}
use Rattle.book_write.proofs.Partial.{Partial, partial_start}
use Rattle.book_write.proofs.Put.{partial_put, room}
use Rattle.book_write.proofs.Whole.{finished_whole}
use Rattle.book_laws.specs.declared.Cursor.{Cursor}

-- a name copied to the front of an array stands there
pub name_copied : (a w : List ℕ) {new : List ℕ} → length w ≤ length a → new ≡ sets a 0 w → take (length w) new ≡ w
name_copied a w h e = let z : 0 + length w ≡ length w = omega arith in rw e (rw z at (take-sets a 0 w (omega arith)))

pub start_partial :
    (l : Layout) (es : List Entry) (d : List ℕ) {n : ℕ} {c : Cursor} → n ≡ length es
    → length (image_in l es) ≤ length d → Started l n c → Partial l es d c d
start_partial l es d {n} {c} many h s = partial_start l es d c h (s.at ∙ ap (records_at l) many) s.index s.len

-- where an entry of a book of n goes at a cursor
abbrev pub slot_at : Layout → ℕ → Cursor → Slot
slot_at l n c = record { layout = l; n = n; index = c.index; at = c.at }

module _ {l : Layout} {es : List Entry} {d₀ : List ℕ} {c : Cursor} {d : List ℕ} (p : Partial l es d₀ c d) {n : ℕ}
    (many : n ≡ length es) where
  pub finish_whole :
      {total : ℕ} → valid es ≡ true → c.index ≡ n → total ≡ length (image_in l es)
      → finished l total n d ≡ overwrite d₀ (image_in l es)
  finish_whole ok e t = rw (t, many) (finished_whole l es ok d₀ c d p (e ∙ many))

  -- the next entry, with the name w
  module _ (h : c.index < length es) {w : List ℕ} (called : w ≡ (at es c.index).name) where
    pub partial_room : valid es ≡ true → PutRoom (slot_at l n c) d (name_in c) w
    partial_room ok =
        let v = valid_of es ok in
        let few = v.few in
        let f = p.fits in
        let most : length (image_in l es) ≤ 55559 = book_length_lem l es ok in
        let r : c.at + length (record_of l.heads c.index (name_in c) w) ≤ length (image_in l es) =
        rw called (room l es d₀ c d p h)
        in
        record {
          few = omega arith;
          low = omega arith;
          near = omega arith;
          short = rw called (name_length (at es c.index).name
              (at_all (λ e. is_name e.name) no_entry es v.allowed c.index h));
          fits = omega arith;
        }

    -- it is put, and r is the cursor behind it
    pub put_partial :
        {s end : ℕ} {new : List ℕ} {r : Cursor} → s ≡ (at es c.index).score
        → EntryPut (slot_at l n c) d new (name_in c) w s end
        → r.index ≡ c.index + 1 → r.at ≡ end → name_in r ≡ w → r.len ≤ longest_name → Partial l es d₀ r new
    put_partial {new = new} {r} scored put index behind name small =
        subst (Partial l es d₀ r) (sym (put.bytes ∙ rw (many, called, scored)))
        (partial_put l es d₀ c d p h r index (behind ∙ put.end ∙ rw called) (name ∙ called) small)

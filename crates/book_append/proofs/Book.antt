-- A pass over the entries of a book: it fits where the image does, it ends where the image ends, and once the entries
-- that are left are put, what stands there is finished to the image.
use Prim.Native.Nat.{◌+◌, ◌-◌, ◌<◌, ◌≤◌, suc, zero, ℕ}
use mathlib.Core.Path.{◌≡◌, refl, sym}
use mathlib.Core.Bool.{Bool, true}
use mathlib.Core.List.{List, []}
use lib.ListN.{drop, length}
use lib.Seq.{drop-cons, drop-length, take-length}
use native.Mathlib.Numerals.{add-one}
use native.Mathlib.Omega.{arith}
use Rattle.octets.specs.Octets.{overwrite}
use Rattle.octets.proofs.Lists.{at_all}
use Rattle.entries.specs.Entries.{Entry, at, no_entry, valid}
use Rattle.entries.specs.Names.{is_name}
use Rattle.entries.proofs.Valid.{name_length, valid_of}
use Rattle.book_laws.specs.Cursor.{name_in}
use Rattle.book.specs.declared.Layout.{Layout}
use Rattle.book.specs.Records.{record_of}
use Rattle.book.specs.Book.{image_in, records_at}
use Rattle.book.proofs.Reading.{image_length}
use Rattle.book.proofs.Size.{book_length_lem}
use Rattle.book_write.specs.Writing.{finished, put_entry}
use Rattle.book_write.proofs.Calls.{finish_whole}
use Rattle.book_write.proofs.Partial.{Partial}
use Rattle.book_write.proofs.Put.{partial_put}
use Rattle.book_append.specs.Append.{Fits, end_of, put_all}
use Rattle.book_laws.specs.declared.Cursor.{Cursor}

-- the cursor at the first record, and the one behind the next entry, named w
abbrev pub first : Layout → List Entry → Cursor
first l es = record { at = records_at l (length es); index = 0; name = []; len = 0 }

abbrev behind : Layout → Cursor → List ℕ → Cursor
behind l c w = record {
  at = c.at + length (record_of l.heads c.index (name_in c) w);
  index = suc c.index;
  name = w;
  len = length w;
}

module _ (l : Layout) (es : List Entry) (ok : valid es ≡ true) where
  -- a book half written, with the entries put that are left: all are put
  rest_put :
      (d₀ : List ℕ) (m : ℕ) (c : Cursor) (d : List ℕ) → Partial l es d₀ c d → c.index + m ≡ length es
      → (r : Cursor) × (r.index ≡ length es)
      × Partial l es d₀ r (put_all l (length es) c.index (name_in c) c.at (drop c.index es) d)
  rest_put d₀ zero c d p e =
      let z : c.index ≡ length es = omega arith in
      let over : drop c.index es ≡ [] = rw z (drop-length es) in
      (c, z, rw over p)
  rest_put d₀ (suc m) c d p e =
      let i = c.index in
      let h : c.index < length es = omega arith in
      let next = behind l c (at es i).name in
      let kept : name_in next ≡ (at es i).name = take-length (at es i).name in
      let short = name_length (at es i).name (at_all (λ f. is_name f.name) no_entry es (valid_of es ok).allowed i h)
      in
      let q = partial_put l es d₀ c d p h next (sym (add-one i)) refl kept short in
      let ih = rest_put d₀ m next (put_entry l (length es) i (name_in c) c.at (at es i) d) q (omega arith) in
      rw (drop-cons es i no_entry h) (rw kept at ih)

  pub rest_whole :
      {d₀ : List ℕ} {c : Cursor} {d new : List ℕ} → Partial l es d₀ c d
      → new ≡ put_all l (length es) c.index (name_in c) c.at (drop c.index es) d
      → finished l (length (image_in l es)) (length es) new ≡ overwrite d₀ (image_in l es)
  rest_whole {d₀} {c} {d} {new} half e =
      let i = half.index in
      let p = rest_put d₀ (length es - c.index) c d half (omega arith) in
      rw e (finish_whole p.2 refl ok p.1 refl)

  -- from the first record on
  pub whole_end : end_of l (first l es) es ≡ length (image_in l es)
  whole_end = sym (image_length l es)

  pub whole_fits : {store : Bool} {n : ℕ} (d : List ℕ) → n ≡ length es
      → (store ≡ true → length (image_in l es) ≤ length d) → Fits l store n (first l es) es d
  whole_fits d many h =
      let v = valid_of es ok in
      let few = v.few in
      let most = book_length_lem l es ok in
      record {
        few = omega arith;
        low = omega arith;
        small = omega arith;
        allowed = v.allowed;
        near = rw whole_end (omega arith);
        enough = rw whole_end h;
      }

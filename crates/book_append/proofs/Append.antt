-- Passes over entries: of none, of one, and one pass after another.
use Prim.Native.Nat.{◌+◌, ◌≤◌, suc, ℕ}
use mathlib.Core.Path.{◌∙◌, ◌≡◌, ap, refl, sym}
use mathlib.Core.Bool.{Bool, false, true}
use mathlib.Core.List.{List, [], ◌++◌, ◌∷◌, append-nil}
use lib.ListN.{length, length-append, length-take}
use lib.Seq.{length-sets, take-length}
use native.Mathlib.Omega.{arith}
use Rattle.octets.specs.Lists.{if◌then◌otherwise◌}
use Rattle.octets.proofs.Lists.{append-all}
use Rattle.octets.proofs.Tests.{and_true_both, by_test}
use Rattle.entries.specs.Entries.{Entry, entry, names}
use Rattle.entries.specs.Names.{is_name, longest_name}
use Rattle.entries.proofs.Valid.{length-names, name_length}
use Rattle.book_laws.specs.Cursor.{name_in}
use Rattle.book.specs.declared.Layout.{Layout}
use Rattle.book.specs.Records.{head_at, last_or, record_of, records}
use Rattle.book_record_write.specs.Written.{Sized}
use Rattle.book.proofs.Records.{records-append}
use Rattle.book_write.specs.Calls.{EntryPut, PutRoom}
use Rattle.book_write.specs.Writing.{put_entry, put_offset, put_record}
use Rattle.book_append.specs.Append.{AppendDone, Fits, Went, after_pass, cursor_behind, end_of, put_all}
use Rattle.book_laws.specs.declared.Cursor.{Cursor}

names-append : (es fs : List Entry) → names (es ++ fs) ≡ names es ++ names fs
names-append [] fs = refl
names-append (e ∷ es) fs = ap (λ l. e.name ∷ l) (names-append es fs)

last_append : (prev : List ℕ) (vs ws : List (List ℕ)) → last_or prev (vs ++ ws) ≡ last_or (last_or prev vs) ws
last_append prev [] ws = refl
last_append prev (v ∷ vs) ws = last_append v vs ws

-- what is put keeps the buffer's length
length_put : (l : Layout) (n i : ℕ) (prev : List ℕ) (at : ℕ) (e : Entry) (d : List ℕ)
    → length (put_entry l n i prev at e d) ≡ length d
unfolding put_entry put_offset
length_put l n i prev at e d =
    rw length-sets
    (by_test (head_at l.heads i) (λ t. rw (t, length-sets, length-sets)) (λ t. rw (t, length-sets)))

length-put_all : (l : Layout) (n i : ℕ) (prev : List ℕ) (at : ℕ) (es : List Entry) (d : List ℕ)
    → length (put_all l n i prev at es d) ≡ length d
length-put_all l n i prev at [] d = refl
length-put_all l n i prev at (e ∷ es) d =
    length-put_all l n (suc i) e.name (at + length (record_of l.heads i prev e.name)) es
    (put_entry l n i prev at e d) ∙ length_put l n i prev at e d

-- entries put in two runs
put_all-append :
    (l : Layout) (n i : ℕ) (prev : List ℕ) (at : ℕ) (es fs : List Entry) (d : List ℕ)
    → put_all l n i prev at (es ++ fs) d
    ≡ put_all l n (i + length es) (last_or prev (names es)) (at + length (records l.heads i prev (names es))) fs
    (put_all l n i prev at es d)
put_all-append l n i prev at [] fs d =
    let x : i + 0 ≡ i = omega arith in
    let y : at + 0 ≡ at = omega arith in
    rw (x, y)
put_all-append l n i prev at (e ∷ es) fs d =
    let x : suc i + length es ≡ i + suc (length es) = omega arith in
    let y : at + length (record_of l.heads i prev e.name) + length
    (records l.heads (suc i) e.name (names es))
    ≡ at + length (record_of l.heads i prev e.name ++ records l.heads (suc i) e.name (names es)) =
    rw length-append (omega arith)
    in
    put_all-append l n (suc i) e.name (at + length (record_of l.heads i prev e.name)) es fs
    (put_entry l n i prev at e d) ∙ rw (x, y)

-- the records of the first run, and of the second behind it
end_split :
    (l : Layout) (c : Cursor) (es fs : List Entry)
    → end_of l c (es ++ fs) ≡ end_of l c es + length
    (records l.heads (c.index + length es) (last_or (name_in c) (names es)) (names fs))
end_split l c es fs =
    let first = records l.heads c.index (name_in c) (names es) in
    let second = records l.heads (c.index + length es) (last_or (name_in c) (names es)) (names fs) in
    let joined : records l.heads c.index (name_in c) (names (es ++ fs)) ≡ first ++ second =
    rw (names-append es fs) (rw (length-names es) at
    (records-append l.heads (names es) (names fs) c.index (name_in c)))
    in
    rw (joined, length-append first second) (omega arith)

-- no entries
pub passed_none : {l : Layout} {store : Bool} {n : ℕ} {c : Cursor} {d : List ℕ} → c.len ≤ longest_name
    → AppendDone l store n c [] d c d
passed_none {l} {store} {n} {c} {d} h =
    record {
      bytes = by_test store (λ t. rw t) (λ t. rw t);
      went = record { index = omega arith; end = omega arith; name = refl; small = h };
    }

-- one pass after another: the cursors
module _ {l : Layout} {c : Cursor} {es : List Entry} {r : Cursor} (p : Went l c es r) where
  pub end_append : (fs : List Entry) → end_of l r fs ≡ end_of l c (es ++ fs)
  end_append fs = rw (p.index, p.end, p.name) (sym (end_split l c es fs))

  went_append : {fs : List Entry} {q : Cursor} → Went l r fs q → Went l c (es ++ fs) q
  went_append {fs} s =
      record {
        index = rw (length-append es fs) (omega (arith, p.index, s.index));
        end = s.end ∙ end_append fs;
        name = s.name ∙ rw (p.name, names-append es fs) (sym (last_append (name_in c) (names es) (names fs)));
        small = s.small;
      }

  pub fits_rest :
      {store : Bool} {n : ℕ} {d new : List ℕ} → length new ≡ length d → (fs : List Entry)
      → Fits l store n c (es ++ fs) d
      → Fits l store n r fs new
  fits_rest long fs f =
      record {
        few = f.few;
        low = omega (arith, f.low, p.index, length-append es fs);
        small = p.small;
        allowed = (append-all (λ g. is_name g.name) es fs f.allowed).1;
        near = rw (end_append fs) f.near;
        enough = λ t. rw (end_append fs, long) (f.enough t);
      }

-- the bytes
module _ {l : Layout} {store : Bool} {n : ℕ} {c : Cursor} {es : List Entry} {d : List ℕ} {r : Cursor} {new : List ℕ}
    (p : AppendDone l store n c es d r new) where
  pub bytes_append : (fs : List Entry) {newer : List ℕ} → newer ≡ after_pass l store n r fs new
      → newer ≡ after_pass l store n c (es ++ fs) d
  bytes_append fs {newer} s =
      by_test store
      (λ t.
      let a : new ≡ put_all l n c.index (name_in c) c.at es d = rw t at p.bytes in
      let b : newer ≡ put_all l n r.index (name_in r) r.at fs new = rw t at s in
      rw t (b ∙ rw (
        p.went.index,
        p.went.name,
        p.went.end,
        a,
      ) (sym (put_all-append l n c.index (name_in c) c.at es fs d))))
      (λ t.
      let a : new ≡ d = rw t at p.bytes in
      let b : newer ≡ new = rw t at s in
      rw t (b ∙ a))

  pub passed_append : {fs : List Entry} {q : Cursor} {newer : List ℕ} → AppendDone l store n r fs new q newer
      → AppendDone l store n c (es ++ fs) d q newer
  passed_append {fs} s = record { bytes = bytes_append fs s.bytes; went = went_append p.went s.went }

  pub passed_length : length new ≡ length d
  passed_length =
      by_test store
      (λ t.
      let a : new ≡ put_all l n c.index (name_in c) c.at es d = rw t at p.bytes in
      rw a (length-put_all l n c.index (name_in c) c.at es d))
      (λ t. let a : new ≡ d = rw t at p.bytes in rw a)

pub fits_first : {l : Layout} {store : Bool} {n : ℕ} {c : Cursor} (es fs : List Entry) {d : List ℕ}
    → Fits l store n c (es ++ fs) d
    → Fits l store n c es d
fits_first {l} {store} {n} {c} es fs {d} f =
    let e = end_split l c es fs in
    record {
      few = f.few;
      low = omega (arith, f.low, length-append es fs);
      small = f.small;
      allowed = (append-all (λ g. is_name g.name) es fs f.allowed).0;
      near = omega (arith, f.near);
      enough = λ t. omega (arith, f.enough t);
    }

-- the same cursor, the name before as a list of its own
abbrev pub plain : Cursor → Cursor
plain c = cursor_behind c.at c.index (name_in c)

plain_name : (c : Cursor) → name_in (plain c) ≡ name_in c
plain_name c = take-length (name_in c)

module _ {l : Layout} {store : Bool} {n : ℕ} {c : Cursor} {es : List Entry} {d : List ℕ} where
  pub plain_fits : Fits l store n c es d → Fits l store n (plain c) es d
  plain_fits f =
      record {
        few = f.few;
        low = f.low;
        small = rw length-take (omega (arith, f.small));
        allowed = f.allowed;
        near = rw (plain_name c) f.near;
        enough = rw (plain_name c) f.enough;
      }

  -- and the cursor r behind, which holds the name w
  pub plain_passed :
      {new w : List ℕ} {end : ℕ} {r : Cursor}
      → AppendDone l store n (plain c) es d (cursor_behind end (c.index + length es) w) new
      → r.index ≡ c.index + length es
      → r.at ≡ end → name_in r ≡ w → r.len ≤ longest_name → AppendDone l store n c es d r new
  plain_passed {new} {w} p index at name small =
      record {
        bytes = rw (plain_name c) at p.bytes;
        went = record {
          index = index;
          end = at ∙ (rw (plain_name c) at p.went.end);
          name = name ∙ sym (take-length w) ∙ (rw (plain_name c) at p.went.name);
          small = small;
        };
      }

-- one entry: with `store` it is put, else only measured
one_end : (l : Layout) (c : Cursor) (w : List ℕ) (s : ℕ)
    → end_of l c (entry w s ∷ []) ≡ c.at + length (record_of l.heads c.index (name_in c) w)
one_end l c w s = rw append-nil

module _ {l : Layout} {store : Bool} {n i at : ℕ} {prev w : List ℕ} {s : ℕ} {d : List ℕ}
    (f : Fits l store n (cursor_behind at i prev) (entry w s ∷ []) d) where
  pub one_short : length w ≤ longest_name
  one_short = name_length w (and_true_both (is_name w) true f.allowed).0

  -- where its record ends
  one_ends : end_of l (cursor_behind at i prev) (entry w s ∷ []) ≡ at + length (record_of l.heads i prev w)
  one_ends = one_end l (cursor_behind at i prev) w s ∙ rw take-length

  one_went : {r : ℕ} → r ≡ at + length (record_of l.heads i prev w)
      → Went l (cursor_behind at i prev) (entry w s ∷ []) (cursor_behind r (i + 1) w)
  one_went e = record { index = refl; end = e ∙ sym one_ends; name = take-length w; small = one_short }

  pub one_room : store ≡ true → PutRoom (record { layout = l; n = n; index = i; at = at }) d prev w
  one_room t =
      record {
        few = f.few;
        low = omega (arith, f.few, f.low);
        near = omega (arith, f.near);
        short = one_short;
        fits = rw one_ends at (f.enough t);
      }

  pub passed_put :
      {r : ℕ} {new : List ℕ} → store ≡ true
      → EntryPut (record { layout = l; n = n; index = i; at = at }) d new prev w s r
      → AppendDone l store n (cursor_behind at i prev) (entry w s ∷ []) d (cursor_behind r (i + 1) w) new
  passed_put t p = record { bytes = rw (t, take-length) p.bytes; went = one_went p.end }

  pub passed_measured :
      {size : ℕ} → store ≡ false → Sized (record_of l.heads i prev w) size
      → AppendDone l store n (cursor_behind at i prev) (entry w s ∷ []) d (cursor_behind (at + size) (i + 1) w) d
  passed_measured t sized = record { bytes = rw t; went = one_went (rw sized.long) }

  -- the record given as its bytes
  pub passed_given :
      {bytes : List ℕ} {r : ℕ} {new : List ℕ} → bytes ≡ record_of l.heads i prev w
      → new ≡ (if store then put_record l n i at bytes s d otherwise d) → r ≡ at + length bytes
      → AppendDone l store n (cursor_behind at i prev) (entry w s ∷ []) d (cursor_behind r (i + 1) w) new
  unfolding put_entry
  passed_given {bytes} {new = new} e put end =
      record {
        bytes = by_test store
            (λ t. let a : new ≡ put_record l n i at bytes s d = rw t at put in rw (t, take-length, ← e) a)
            (λ t. let a : new ≡ d = rw t at put in rw t a);
        went = one_went (rw (← e) end);
      }

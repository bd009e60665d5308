-- Cursors from which a book's records are read: where they start, and that each record read gives the next name.
use Prim.Native.Nat.{◌+◌, ◌-◌, ◌<◌, ◌≤◌, ℕ}
use mathlib.Core.Path.{◌∙◌, ◌≡◌, ap, refl, sym}
use mathlib.Core.Bool.{false, false≢true, true}
use mathlib.Core.List.{List, [], ◌++◌, ◌∷◌}
use lib.Dec.{eqb}
use lib.ListN.{drop, get_or, length, length-drop, take, take-append-drop}
use lib.Seq.{drop-drop, get_or-drop, length-sets, sets, take-take}
use native.Mathlib.Numerals.{add-one}
use native.Mathlib.Omega.{arith}
use borrow.Author.Tests.{eq-eqb, eqb-true}
use Rattle.octets.specs.Octets.{begins, common}
use Rattle.octets.proofs.Coding.{common_most, common-take}
use Rattle.octets.proofs.Order.{front_of_lem}
use Rattle.octets.proofs.Stores.{take-sets}
use Rattle.octets.proofs.Tests.{and_true_both, by_test}
use Rattle.entries.specs.Entries.{Entry, at}
use Rattle.entries.specs.Names.{longest_name}
use Rattle.entries.proofs.Valid.{name_length}
use Rattle.book.specs.Book.{in_book, today}
use Rattle.book_laws.specs.Ahead.{name_before, record_at}
use Rattle.book_laws.specs.Cursor.{cursor_of}
use Rattle.book_laws.specs.Held.{Held}
use Rattle.book_laws.specs.declared.Cursor.{Cursor}
use Rattle.book_laws.proofs.Front.{last_next}
use Rattle.book_laws.proofs.Standing.{kept_there, name_allowed, next_there, own_there, own_within, record_inside}
use Rattle.book_laws.proofs.Standing.{rest_there}
use Rattle.book_laws.proofs.Stored.{StoredIn}
use Rattle.book_held.proofs.Places.{entries_stored, entries_valid}
use Rattle.book_read.specs.Record.{Inside, Read, parts_at}
use Rattle.book_laws.specs.declared.Parts.{Parts}
use Rattle.book_name.specs.Poised.{Poised, Starts, kept_at}

-- the parts of a record, as its first two bytes say them
parts-plain : (i : ℕ) (s : List ℕ)
    → parts_at today.heads i s ≡ record { kept = get_or s 0 0; start = 2; own = get_or s 1 0 }
unfolding parts_at
parts-plain i s = refl

-- the walk from one record to the next: up to position i, the last name read in the first len bytes
pub record Naming (es : List Entry) (first i k index : ℕ) (name : List ℕ) (len : ℕ) : Type 0 where
  pub poised : Poised es (cursor_of k index name len)
  pub long : length name ≡ longest_name
  pub from : first ≤ index
  pub upto : index ≤ i + 1
  pub last : first < index → (take len name ≡ (at es (index - 1)).name) × (len ≤ longest_name)

-- es are the entries of the book in a buffer that was checked
module _
    {book : List ℕ} {n : ℕ} (held : Held book n) {es : List Entry} (v : in_book book ≡ es)
    {first i k index len : ℕ} {name : List ℕ} (g : Naming es first i k index name len) (h : index < length es)
  where
    abbrev w : List ℕ
    w = (at es index).name

    abbrev kept : ℕ
    kept = kept_at es index

    abbrev own : ℕ
    own = length w - kept_at es index

    abbrev s : List ℕ
    s = drop k book

    stored : StoredIn today book es
    stored = entries_stored held v

    two_bytes : (get_or s 0 0 ≡ kept) × (get_or s 1 0 ≡ own)
    two_bytes =
        let z : k + 0 ≡ k = omega arith in (
          get_or-drop k book 0 0 ∙ rw (z, g.poised.stands) (kept_there today book es stored refl index h),
          get_or-drop k book 1 0 ∙ rw g.poised.stands (own_there today book es stored refl index h),
        )

    parts : parts_at today.heads index s ≡ record { kept = kept; start = 2; own = own }
    parts = parts-plain index s ∙ rw (two_bytes.0, two_bytes.1)

    whole : kept + own ≡ length w
    whole = own_within today book es stored refl index h

    short : length w ≤ longest_name
    short = name_length w (name_allowed es (entries_valid held v) index h)

    within : k + 2 + own ≤ length book
    within = rw g.poised.stands (record_inside today book es stored refl index h)

    pub naming-inside : Inside today.heads s index (length name)
    naming-inside =
        let l = length-drop k book in
        record {
          two = omega (arith, within);
          whole = rw parts (omega (arith, within));
          room = rw parts (omega (arith, whole, short, g.long));
        }

    -- the record there was read
    module _ {new : List ℕ} {p : Parts} (r : Read today.heads s index name new p) where
      told : p ≡ record { kept = kept; start = 2; own = own }
      told = r.parts ∙ parts

      bytes : new ≡ sets name kept (drop kept w)
      bytes =
          let d : drop 2 s ≡ drop (record_at es index + 2) book = drop-drop 2 k book
          ∙ ap (λ m. drop (m + 2) book) g.poised.stands in
          rw told at r.bytes
          ∙ ap (λ b. sets name kept (take own b)) d
          ∙ ap (sets name kept) (rest_there today book es stored refl index h)

      own_long : length (drop kept w) ≡ own
      own_long = length-drop kept w

      -- the name in the array
      is_name_lem : take (length w) new ≡ w
      is_name_lem =
          let e : length w ≡ kept + length (drop kept w) = omega (arith, own_long, whole) in
          ap (take (length w)) bytes
          ∙ ap (λ m. take m (sets name kept (drop kept w))) e
          ∙ take-sets name kept (drop kept w) (omega (arith, g.long, short))
          ∙ ap (λ v. v ++ drop kept w) (g.poised.keeps h)
          ∙ take-append-drop kept w

      pub naming_inner : k + (p.start + p.own) ≤ length book
      naming_inner = rw told (omega (arith, within))

      pub naming_short : p.kept + p.own ≤ longest_name
      naming_short = rw told (omega (arith, whole, short))

      pub naming_on :
          index ≤ i → Naming es first i (k + (p.start + p.own)) (index + 1) new (p.kept + p.own)
      naming_on below =
          record {
            poised = record { stands = stands; keeps = keeps };
            long = rw bytes (length-sets name kept (drop kept w) ∙ g.long);
            from = omega (arith, g.from);
            upto = omega arith;
            last = λ z.
                let y : index + 1 - 1 ≡ index = omega arith in
                (rw (told, whole, y) is_name_lem, naming_short);
          }
        where
          stands : k + (p.start + p.own) ≡ record_at es (index + 1)
          stands =
              let n = next_there today book es stored refl index h in
              let o = g.poised.stands in
              rw (told, add-one index) (omega arith)

          keeps :
              index + 1 < length es
              → take (kept_at es (index + 1)) new ≡ take (kept_at es (index + 1)) (at es (index + 1)).name
          keeps z =
              let w' = (at es (index + 1)).name in
              let b : name_before es (index + 1) ≡ w = rw (add-one index) (last_next today es index h) in
              rw b (rest w')
            where
              rest : (v : List ℕ) → take (common w v) new ≡ take (common w v) v
              rest v =
                  sym (take-take (common w v) (length w) new (common_most w v))
                  ∙ ap (take (common w v)) is_name_lem
                  ∙ common-take w v

-- the bytes stored at the front of an array
pub front_of-sets :
    (d p : List ℕ) {new : List ℕ} → new ≡ sets d 0 p → length p ≤ length d → take (length p) new ≡ p
front_of-sets d p e h =
    let z : 0 + length p ≡ length p = omega arith in
    ap (take (length p)) e ∙ (rw z at (take-sets d 0 p (rw z h)))

-- a name that a prefix does not begin shares no more bytes than the prefix has with one that it begins
pub common_few : (p a w : List ℕ) → begins p a ≡ false → begins p w ≡ true → common a w ≤ length p
common_few [] a w h k = absurd (false≢true (sym h))
common_few (y ∷ p) [] w h k = omega arith
common_few (y ∷ p) (x ∷ a) [] h k = omega arith
common_few (y ∷ p) (x ∷ a) (z ∷ w) h k =
    let u = and_true_both (eqb y z) (begins p w) k in
    let f = eqb-true y z u.0 in
    by_test (eqb x z)
    (λ t.
    let e = eqb-true x z t in
    let b : begins p a ≡ false = rw (eq-eqb y x (omega arith)) at h in
    let ih = common_few p a w b u.1 in
    rw t (omega arith))
    (λ t. rw t (omega arith))

-- with a prefix in the array, in front of a record whose name it begins and that keeps no more bytes than it has
pub poised_primed :
    (es : List Entry) (prefix : List ℕ) {index k : ℕ} {c : Cursor} → Starts prefix index k c → k ≡ record_at es index
    → length prefix ≤ longest_name → begins prefix (at es index).name ≡ true → kept_at es index ≤ length prefix
    → Poised es c
poised_primed es prefix {index} {k} {c} s e l b few =
    record {
      stands = rw s.position (s.place ∙ e);
      keeps = λ h.
          rw s.position
          (sym (take-take (kept_at es index) (length prefix) c.name few)
          ∙ ap (take (kept_at es index)) (s.front l ∙ sym (front_of_lem prefix (at es index).name b))
          ∙ take-take (kept_at es index) (length prefix) (at es index).name few);
    }

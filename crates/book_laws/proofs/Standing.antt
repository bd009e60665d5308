-- The record of any position in a buffer that holds a book; without heads, the bytes of its header and of its rest.
use Prim.Native.Nat.{◌+◌, ◌-◌, ◌<◌, ◌≤◌, suc, zero, ℕ}
use mathlib.Core.Path.{◌∙◌, ◌≡◌, ap, sym}
use mathlib.Core.Bool.{false, true}
use mathlib.Core.List.{List, [], ◌++◌, ◌∷◌, append_assoc}
use lib.ListN.{drop, get_or, length, length-append, length-drop, take, take-append-drop}
use lib.Seq.{drop-append_seam, drop-cons, drop-drop, get_or-drop, length-take-le, take-append_seam}
use native.Mathlib.Omega.{arith}
use Rattle.octets.specs.Octets.{below, common}
use Rattle.octets.proofs.Coding.{common_le}
use Rattle.octets.proofs.Lists.{at_all}
use Rattle.octets.proofs.Order.{begins_split}
use Rattle.entries.specs.Entries.{Entry, at, names, no_entry}
use Rattle.entries.specs.Names.{is_name}
use Rattle.entries.proofs.Span.{rising-at}
use Rattle.entries.proofs.Valid.{Valid, length-names, name_above}
use Rattle.book.specs.Records.{record_of, records}
use Rattle.book.specs.declared.Layout.{Layout}
use Rattle.book.specs.Book.{image_in, records_at, today}
use Rattle.book.proofs.Records.{records-append}
use Rattle.book.proofs.Reading.{image_records}
use Rattle.book_laws.specs.Ahead.{name_before, record_at_in}
use Rattle.book_laws.proofs.Ahead.{names_at}
use Rattle.book_laws.proofs.Front.{last_next, record_next}
use Rattle.book_laws.proofs.Stored.{StoredIn}

-- the name at a position is allowed, and above the one before it
module _ (es : List Entry) (v : Valid es) where
  pub name_allowed : (i : ℕ) → i < length es → is_name (at es i).name ≡ true
  name_allowed i h = at_all (λ e. is_name e.name) no_entry es v.allowed i h

  pub before-below : (i : ℕ) → i < length es → below (name_before es i) (at es i).name ≡ true
  before-below zero h = name_above (at es 0).name (name_allowed 0 h)
  before-below (suc i) h =
      rw (last_next today es i (omega arith)) (rising-at es v.order i (suc i) (omega arith) h)

module _ (l : Layout) (buf : List ℕ) (es : List Entry) (s : StoredIn l buf es) where
  abbrev left : List ℕ
  left = drop (length (image_in l es)) buf

  -- the records from a position on
  pub records_stand :
      (i : ℕ) → i ≤ length es
      → drop (record_at_in l es i) buf ≡ records l.heads i (name_before es i) (drop i (names es)) ++ left
  records_stand i h =
      let n = length-names es in
      let front = records l.heads 0 [] (take i (names es)) in
      let back = records l.heads i (name_before es i) (drop i (names es)) in
      let k : 0 + length (take i (names es)) ≡ i = rw (length-take-le i (names es) (omega arith)) (omega arith) in
      let split : records l.heads 0 [] (names es) ≡ front ++ back =
      ap (records l.heads 0 []) (sym (take-append-drop i (names es)))
      ∙ records-append l.heads (take i (names es)) (drop i (names es)) 0 []
      ∙ ap (λ m. front ++ records l.heads m (name_before es i) (drop i (names es))) k
      in
      sym (drop-drop (length front) (records_at l (length es)) buf)
      ∙ ap (λ b. drop (length front) (drop (records_at l (length es)) b)) (begins_split (image_in l es) buf s.front)
      ∙ ap (drop (length front)) (image_records l es left ∙ ap (λ r. r ++ left) split ∙ append_assoc front back left)
      ∙ drop-append_seam front (back ++ left)

  -- without heads
  module _ (off : l.heads ≡ false) (i : ℕ) (h : i < length es) where
    abbrev w : List ℕ
    w = (at es i).name

    abbrev kept : ℕ
    kept = common (name_before es i) (at es i).name

    abbrev own : ℕ
    own = length (at es i).name - common (name_before es i) (at es i).name

    abbrev behind : List ℕ
    behind = records l.heads (suc i) w (drop (suc i) (names es)) ++ left

    plain : record_of l.heads i (name_before es i) w ≡ kept ∷ own ∷ drop kept w
    unfolding record_of
    plain = ap (λ b. record_of b i (name_before es i) w) off

    own_length : length (drop kept w) ≡ own
    own_length = length-drop kept w

    here : drop (record_at_in l es i) buf ≡ kept ∷ own ∷ (drop kept w ++ behind)
    here =
        let n = length-names es in
        records_stand i (omega arith)
        ∙ rw (drop-cons (names es) i [] (omega arith), names_at es i h)
        (append_assoc (record_of l.heads i (name_before es i) w)
        (records l.heads (suc i) w (drop (suc i) (names es)))
        left)
        ∙ ap (λ r. r ++ behind) plain

    -- how many bytes its name keeps, how many follow, and these
    pub kept_there : get_or buf (record_at_in l es i) 0 ≡ kept
    kept_there =
        let z : record_at_in l es i + 0 ≡ record_at_in l es i = omega arith in
        ap (λ k. get_or buf k 0) (sym z)
        ∙ sym (get_or-drop (record_at_in l es i) buf 0 0)
        ∙ ap (λ b. get_or b 0 0) here

    pub own_there : get_or buf (record_at_in l es i + 1) 0 ≡ own
    own_there = sym (get_or-drop (record_at_in l es i) buf 1 0) ∙ ap (λ b. get_or b 1 0) here

    pub rest_there : take own (drop (record_at_in l es i + 2) buf) ≡ drop kept w
    rest_there =
        let z : record_at_in l es i + 2 ≡ 2 + record_at_in l es i = omega arith in
        let d : drop (record_at_in l es i + 2) buf ≡ drop kept w ++ behind =
        sym (drop-drop 2 (record_at_in l es i) buf) ∙ ap (drop 2) here
        in
        ap (take own) d
        ∙ ap (λ k. take k (drop kept w ++ behind)) (sym own_length)
        ∙ take-append_seam (drop kept w) behind

    pub record_inside : record_at_in l es i + 2 + own ≤ length buf
    record_inside =
        let a = ap length here in
        let b = length-append (drop kept w) behind in
        let c = length-drop (record_at_in l es i) buf in
        omega (arith, own_length)

    -- where the next one begins
    pub next_there : record_at_in l es (suc i) ≡ record_at_in l es i + 2 + own
    next_there =
        let a = record_next l es i h in
        let b = ap length plain in
        omega (arith, own_length)

    -- the bytes that it keeps and those that follow are the name
    pub own_within : kept + own ≡ length w
    own_within = let c = common_le (name_before es i) w in omega arith

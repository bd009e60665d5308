-- A buffer that is read: every number of the image is at its place.
use Prim.Native.Nat.{◌*◌, ◌+◌, ◌<◌, ◌^◌, ◌≤◌, ℕ}
use mathlib.Core.Path.{◌∙◌, ◌≡◌, ap, sym}
use mathlib.Core.Bool.{Bool, false, true}
use mathlib.Core.List.{List, [], ◌++◌}
use mathlib.Core.Option.{some}
use lib.ListN.{drop, get_or, length, length-append, take, take-append-drop}
use native.Mathlib.Omega.{arith}
use borrow.Author.Tests.{ltb-true}
use Rattle.octets.specs.Lists.{ceil, concat_map, count_from}
use Rattle.octets.specs.Octets.{be, begins, number_at}
use Rattle.octets.proofs.Lists.{at_all, counted_at, length-count_from}
use Rattle.octets.proofs.Numbers.{fields_number, stands-number}
use Rattle.octets.proofs.Order.{begins-length, begins_split}
use Rattle.entries.specs.Entries.{Entry, at, names, no_entry, valid}
use Rattle.entries.specs.Names.{is_score}
use Rattle.entries.proofs.Valid.{length-names, valid_of}
use Rattle.book.specs.Records.{bucket_size, last_or, names_from, records}
use Rattle.book.proofs.Records.{names_from_of, records-append}
use Rattle.book.specs.declared.Layout.{Layout}
use Rattle.book.specs.Book.{block_size, buckets, image_in, offset, offsets, peak, peaks, read_in, records_at, scores, today}
use Rattle.book_laws.specs.Check.{offset_start, peak_start, score_at}
use Rattle.book.proofs.Places.{peak-inside}
use Rattle.book.proofs.Reading.{exact_in, image_length, image_records}
use Rattle.book.proofs.Sections.{peaks_at, sections_of}
use Rattle.book.proofs.Size.{book_length_lem}

-- the records of the first k names, and an offset, lie within the image
pub front_within :
    (l : Layout) (es : List Entry) (k : ℕ)
    → records_at l (length es) + length (records l.heads 0 [] (take k (names es))) ≤ length (image_in l es)
front_within l es k =
    let front = take k (names es) in
    let back = drop k (names es) in
    let a = records-append l.heads front back 0 [] in
    let b = length-append (records l.heads 0 [] front)
    (records l.heads (0 + length front) (last_or [] front) back) in
    let c : length (records l.heads 0 [] (names es)) ≡ length (records l.heads 0 [] front) + length
    (records l.heads (0 + length front) (last_or [] front) back) =
    ap (λ ws. length (records l.heads 0 [] ws)) (sym (take-append-drop k (names es))) ∙ ap length a ∙ b
    in
    let i = image_length l es in
    omega arith

pub offset_within : (l : Layout) (es : List Entry) (j : ℕ) → offset l es j ≤ length (image_in l es)
unfolding offset
offset_within l es j = front_within l es (bucket_size * j)

pub buckets_on : (heads : Bool) (n : ℕ) → heads ≡ true → buckets heads n ≡ ceil n bucket_size
buckets_on heads n on = rw on

pub buckets_off : (heads : Bool) (n : ℕ) → heads ≡ false → buckets heads n ≡ 0
buckets_off heads n off = rw off

-- the offsets of a layout that has them
offsets_there :
    (l : Layout) (es : List Entry) (buf : List ℕ) → l.heads ≡ true
    → begins (offsets l es) (drop (7 + 4 * length es) buf) ≡ true
    → begins (concat_map (λ j. be 2 (offset l es j)) (count_from 0 (ceil (length es) bucket_size)))
    (drop (7 + 4 * length es) buf) ≡ true
unfolding offsets
offsets_there l es buf on h = rw (buckets_on l.heads (length es) on) at h

-- what the places of the image hold
pub record StoredIn (l : Layout) (buf : List ℕ) (es : List Entry) : Type 0 where
  pub ok : valid es ≡ true
  pub front : begins (image_in l es) buf ≡ true
  pub inside : length (image_in l es) ≤ length buf
  pub small : length (image_in l es) ≤ 55559
  pub count : number_at 2 buf 5 ≡ length es
  pub total : number_at 4 buf 1 ≡ length (image_in l es)
  pub scored_at : (i : ℕ) → i < length es → score_at buf i ≡ (at es i).score
  pub offset_at : l.heads ≡ true → (j : ℕ) → bucket_size * j < length es
      → number_at 2 buf (offset_start (length es) j) ≡ offset l es j
  pub peak_at : (j : ℕ) → block_size * j < length es → number_at 2 buf (peak_start l (length es) j) ≡ peak es j

pub stored : (l : Layout) (buf : List ℕ) (es : List Entry) → read_in l buf ≡ some es → StoredIn l buf es
unfolding offsets peaks scores score_at records_at is_score
stored l buf es h =
    let x = (exact_in l).sound es buf h in
    let v = valid_of es x.0 in
    let few = v.few in
    let s = sections_of l es buf x.1 in
    let small = book_length_lem l es x.0 in
    let inside = begins-length (image_in l es) buf x.1 in
    let long = image_length l es in
    record {
      ok = x.0;
      front = x.1;
      inside = inside;
      small = small;
      count = stands-number 2 buf 5 (length es) (omega arith) s.has_count (omega arith);
      total = stands-number 4 buf 1 (length (image_in l es)) (omega arith) s.has_total (omega arith);
      scored_at = fields_number 4 (λ (e : Entry). e.score) no_entry (omega arith) es buf 7
          (λ j m. ltb-true (at es j).score (2 ^ 32) (at_all (λ e. is_score e.score) no_entry es v.fits j m))
          s.has_scores;
      offset_at = λ on j m.
          let n = length-count_from 0 (ceil (length es) bucket_size) in
          let c = counted_at (ceil (length es) bucket_size) j 0 (omega arith) in
          fields_number 2 (offset l es) 0 (omega arith) (count_from 0 (ceil (length es) bucket_size)) buf
          (7 + 4 * length es)
          (λ i o. let w = offset_within l es (get_or (count_from 0 (ceil (length es) bucket_size)) i 0) in omega arith)
          (offsets_there l es buf on s.has_offsets) j (omega arith)
          ∙ ap (offset l es) c;
      peak_at = λ j m.
          let n = length-count_from 0 (ceil (length es) block_size) in
          let c = counted_at (ceil (length es) block_size) j 0 (omega arith) in
          fields_number 2 (peak es) 0 (omega arith) (count_from 0 (ceil (length es) block_size)) buf
          (peaks_at l (length es))
          (λ i o.
          let d = counted_at (ceil (length es) block_size) i 0 (omega arith) in
          let w = peak-inside es i (omega arith) in
          rw d (omega arith))
          s.has_peaks j (omega arith)
          ∙ ap (peak es) c;
    }

-- the same of a book of today
abbrev pub Stored : List ℕ → List Entry → Type 0
Stored buf es = StoredIn today buf es

-- the names that the records of a buffer that is read say
pub read_names :
    (l : Layout) (buf : List ℕ) (es : List Entry) → read_in l buf ≡ some es
    → names_from l.heads (length es) 0 [] (drop (records_at l (length es)) buf) ≡ names es
read_names l buf es h =
    let x = (exact_in l).sound es buf h in
    let rest = drop (length (image_in l es)) buf in
    let split : drop (records_at l (length es)) buf ≡ records l.heads 0 [] (names es)
    ++ drop (length (image_in l es)) buf =
    ap (drop (records_at l (length es))) (begins_split (image_in l es) buf x.1)
    ∙ image_records l es (drop (length (image_in l es)) buf)
    in
    rw (split, ← length-names es) (names_from_of l.heads (names es) 0 [] (drop (length (image_in l es)) buf))

-- A book is read exactly when its front is the image of a valid list, and then that list is what is read.
use Prim.Native.Nat.{◌*◌, ◌+◌, ◌-◌, ◌<◌, ◌^◌, ℕ}
use mathlib.Core.Path.{◌∙◌, ◌≡◌, ap, refl, sym}
use mathlib.Core.Bool.{false≢true, true}
use mathlib.Core.List.{List, [], ◌++◌, ◌∷◌, append_assoc, map}
use mathlib.Core.Option.{Option, none, some}
use lib.ListN.{drop, length, length-append}
use lib.Seq.{drop-append_seam, drop_at, drop-drop, take_at}
use native.Mathlib.Omega.{arith}
use borrow.Author.Tests.{ltb-true}
use Rattle.octets.specs.Lists.{all, ceil, concat_map, count_from}
use Rattle.octets.specs.Octets.{be}
use Rattle.octets.proofs.Coding.{from_be-be, length-be, length_fields}
use Rattle.octets.proofs.Lists.{length-count_from}
use Rattle.octets.proofs.Tests.{and_true_both}
use Rattle.entries.specs.Entries.{Entry, names, valid}
use Rattle.entries.specs.Names.{is_score}
use Rattle.entries.proofs.Valid.{Valid, length-names}
use Rattle.book.specs.Records.{records}
use Rattle.book.proofs.Records.{names_from_of}
use Rattle.book.specs.declared.Layout.{Layout}
use Rattle.book.specs.Book.{block_size, book_image, buckets, entries_from, entries_in, image_in, in_book, in_book_in}
use Rattle.book.specs.Book.{is_book, is_book_in, offset, offsets, peak, peaks, read_book, read_in, records_at, scores}
use Rattle.book.specs.Book.{scores_from, today}
use Rattle.frame.specs.Frame.{Exact, count_of, entries_of, is_read}
use Rattle.frame.proofs.Frame.{exact, framed_body, framed-count, framed-length, read_of}

-- scores read back
scores_from_of :
    (es : List Entry) (rest : List ℕ) → all (λ e. is_score e.score) es ≡ true
    → scores_from (length es) (concat_map (λ e. be 4 e.score) es ++ rest) ≡ map (λ e. e.score) es
unfolding is_score
scores_from_of [] rest h = refl
scores_from_of (e ∷ es) rest h =
    let q = and_true_both (is_score e.score) (all (λ f. is_score f.score) es) h in
    rw (
      append_assoc (be 4 e.score) (concat_map (λ f. be 4 f.score) es) rest,
      take_at (be 4 e.score) (concat_map (λ f. be 4 f.score) es ++ rest) 4 (length-be 4 e.score),
      drop_at (be 4 e.score) (concat_map (λ f. be 4 f.score) es ++ rest) 4 (length-be 4 e.score),
      from_be-be 4 e.score (ltb-true e.score (2 ^ 32) q.0),
      scores_from_of es rest q.1,
    )
    refl

entries_from_of : (es : List Entry) → entries_from (map (λ e. e.name) es) (map (λ e. e.score) es) ≡ es
entries_from_of [] = refl
entries_from_of (e ∷ es) = rw (entries_from_of es)

pub length-scores : (es : List Entry) → length (scores es) ≡ 4 * length es
unfolding scores
length-scores es = length_fields 4 (λ (e : Entry). e.score) es

pub length-peaks : (es : List Entry) → length (peaks es) ≡ 2 * ceil (length es) block_size
unfolding peaks
length-peaks es =
    length_fields 2 (peak es) (count_from 0 (ceil (length es) block_size))
    ∙ ap (λ m. 2 * m) (length-count_from 0 (ceil (length es) block_size))

-- The parts of an image, in every layout.
module _ (l : Layout) where
  pub length-offsets : (es : List Entry) → length (offsets l es) ≡ 2 * buckets l.heads (length es)
  unfolding offsets
  length-offsets es =
      length_fields 2 (offset l es) (count_from 0 (buckets l.heads (length es)))
      ∙ ap (λ m. 2 * m) (length-count_from 0 (buckets l.heads (length es)))

  pub image_length :
      (es : List Entry) → length (image_in l es) ≡ records_at l (length es) + length (records l.heads 0 [] (names es))
  unfolding image_in records_at
  image_length es =
      rw (
        framed-length,
        length-append,
        length-scores,
        length-append,
        length-offsets,
        length-append,
        length-peaks,
      ) (omega arith)

  -- what stands between the frame and the records
  fields : List Entry → List ℕ
  fields es = scores es ++ (offsets l es ++ peaks es)

  length_fields_of : (es : List Entry) → 7 + length (fields es) ≡ records_at l (length es)
  unfolding fields records_at
  length_fields_of es = rw (length-append, length-append, length-scores, length-offsets, length-peaks) (omega arith)

  fields_append : (es : List Entry) (r : List ℕ) → fields es ++ r ≡ scores es ++ (offsets l es ++ (peaks es ++ r))
  unfolding fields
  fields_append es r = simp append_assoc

  image_body :
      (es : List Entry) (rest : List ℕ)
      → drop 7 (image_in l es ++ rest) ≡ scores es
      ++ (offsets l es ++ (peaks es ++ (records l.heads 0 [] (names es) ++ rest)))
  unfolding image_in
  image_body es rest = rw framed_body (simp append_assoc)

  pub image_records :
      (es : List Entry) (rest : List ℕ)
      → drop (records_at l (length es)) (image_in l es ++ rest) ≡ records l.heads 0 [] (names es) ++ rest
  image_records es rest =
      rw (
        ← length_fields_of es,
        ← drop-drop (length (fields es)) 7 (image_in l es ++ rest),
        image_body es rest,
        ← fields_append es (records l.heads 0 [] (names es) ++ rest),
      )
      (drop-append_seam (fields es) (records l.heads 0 [] (names es) ++ rest))

  image_count : (es : List Entry) (rest : List ℕ) → length es < 65536 → count_of (image_in l es ++ rest) ≡ length es
  unfolding image_in
  image_count es rest h =
      framed-count l.version (length es) (scores es
      ++ (offsets l es ++ (peaks es ++ records l.heads 0 [] (names es)))) rest h

  entries_in_of : (es : List Entry) (rest : List ℕ) → Valid es → entries_in l (image_in l es ++ rest) ≡ es
  unfolding entries_in scores
  entries_in_of es rest v =
      rw (
        image_count es rest (omega (arith, v.few)),
        image_records es rest,
        image_body es rest,
        ← length-names es,
        names_from_of l.heads (names es) 0 [] rest,
        length-names es,
        scores_from_of es (offsets l es ++ (peaks es ++ (records l.heads 0 [] (names es) ++ rest))) v.fits,
      )
      (entries_from_of es)

  pub exact_in : Exact (read_in l) (image_in l)
  unfolding read_in
  exact_in = exact (entries_in l) (image_in l) entries_in_of

  -- a buffer that is a book is read as its entries
  pub read_in_lem : (buf : List ℕ) → is_book_in l buf ≡ true → read_in l buf ≡ some (in_book_in l buf)
  read_in_lem buf h = go (read_in l buf) refl
    where
      go : (o : Option (List Entry)) → read_in l buf ≡ o → read_in l buf ≡ some (entries_of o)
      go none e = absurd (false≢true (sym (ap is_read e) ∙ h))
      go (some es) e = e

-- the book of today
pub book_exact : Exact read_book book_image
book_exact = exact_in today

pub read_book_of : (es : List Entry) (rest : List ℕ) → valid es ≡ true → read_book (book_image es ++ rest) ≡ some es
read_book_of es rest h = read_of read_book book_image book_exact es rest h

pub book_read_lem : (buf : List ℕ) → is_book buf ≡ true → read_book buf ≡ some (in_book buf)
book_read_lem buf h = read_in_lem today buf h

-- the entries of a book are valid
pub valid_in : (book : List ℕ) → is_book book ≡ true → valid (in_book book) ≡ true
valid_in book t = (book_exact.sound (in_book book) book (book_read_lem book t)).0

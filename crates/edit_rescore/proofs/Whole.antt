-- The image of a book, a score stored in it and the peak of that score's block put again: the image of the entries with
-- that score.
use Prim.Native.Nat.{◌*◌, ◌+◌, ◌/◌, ◌<◌, ◌≤◌, ℕ}
use mathlib.Core.Path.{◌∙◌, ◌≡◌, ap}
use mathlib.Core.Logic.{◌⊎◌, inl, inr}
use mathlib.Core.Bool.{true}
use mathlib.Core.List.{List, [], ◌++◌, ◌∷◌}
use lib.Dec.{eqb, ltb}
use lib.ListN.{drop, length, take}
use lib.Seq.{drop-append_seam, get_or-set_other, length-sets, sets}
use native.Mathlib.Omega.{arith}
use borrow.Author.Tests.{eqb-false, eqb-true, ltb-false, ltb-true}
use Rattle.octets.specs.Lists.{ceil, count_from}
use Rattle.octets.specs.Octets.{be, begins, overwrite}
use Rattle.octets.proofs.Coding.{length-be}
use Rattle.octets.proofs.Lists.{counted_at, length-count_from}
use Rattle.octets.proofs.Numbers.{fields_each, fields_join}
use Rattle.octets.proofs.Order.{begins-append, begins-length, begins_split, front_of_lem}
use Rattle.octets.proofs.Stores.{sets_behind, sets-overwrite, sets-stands, stays}
use Rattle.octets.proofs.Tests.{by_test}
use Rattle.entries.specs.Entries.{Entry, at, entry, names, no_entry, valid}
use Rattle.entries.proofs.Valid.{valid_of}
use Rattle.book.specs.Records.{records}
use Rattle.book.specs.Book.{block_size, book_image, image_in, in_book, offsets, peak, peaks, records_at, scores, today}
use Rattle.book_laws.specs.Check.{best_between, block_end, peak_start, peaks_start, score_start}
use Rattle.book_laws.specs.Held.{Held}
use Rattle.book_held.proofs.Places.{entries_stored}
use Rattle.book.proofs.Reading.{length-offsets}
use Rattle.book.proofs.Sections.{Sections, of_sections, sections_of}
use Rattle.book_write.specs.Writing.{put_peak}
use Rattle.book_write.proofs.Whole.{image_long, peak_computed}
use Rattle.edit_rescore.specs.Rescored.{rescored}
use Rattle.edit_rescore.proofs.Rescored.{rescored_image, rescored-length, rescored-names, rescored-offsets}
use Rattle.edit_rescore.proofs.Rescored.{rescored-peak, rescored_there, rescored-valid}

module _
    (es : List Entry) (ok : valid es ≡ true) (i s : ℕ) (h : i < length es) (small : s < 4294967296) (d : List ℕ)
    (stand : begins (image_in today es) d ≡ true)
  where
    abbrev n : ℕ
    n = length es

    abbrev j : ℕ
    j = i / block_size

    abbrev fs : List Entry
    fs = rescored es i s

    abbrev T : ℕ
    T = length (image_in today es)

    parts : Sections today es d
    parts = sections_of today es d stand

    fits : T ≤ length d
    fits = begins-length (image_in today es) d stand

    as_long : length fs ≡ n
    as_long = rescored-length es i s

    image_same : length (image_in today fs) ≡ T
    image_same = rescored_image es i s

    -- the score
    abbrev e : List ℕ
    e = sets d (score_start i) (be 4 s)

    score_inside : score_start i + 4 ≤ T
    unfolding records_at
    score_inside = let g = image_long today es in omega arith

    score_room : score_start i + length (be 4 s) ≤ length d
    score_room = let f = fits in let g = score_inside in rw length-be (omega arith)

    long_e : length e ≡ length d
    long_e = length-sets d (score_start i) (be 4 s)

    scored : (k : ℕ) → k < length fs → begins (be 4 (at fs k).score) (drop (score_start k) e) ≡ true
    unfolding scores
    scored k l =
        let m = as_long in
        by_test (eqb k i)
        (λ t. let q = eqb-true k i t in
        rw (q, rescored_there es i s h) (sets-stands d (be 4 s) (score_start i) score_room))
        (λ t.
        let q = eqb-false k i t in
        rw (get_or-set_other es i k (entry (at es i).name s) no_entry q)
        (stays d (be 4 s) (score_start i) score_room (be 4 (at es k).score) (score_start k)
        (by_test (ltb k i)
        (λ u. let r = ltb-true k i u in inl (rw length-be (omega arith)))
        (λ u. let r = ltb-false k i u in inr (rw length-be (omega arith))))
        (fields_each 4 (λ (f : Entry). f.score) no_entry es d 7 parts.has_scores k (omega arith))))

    -- the peak of its block
    abbrev top : List ℕ
    top = be 2 (peak fs j)

    abbrev place : ℕ
    place = peak_start today n j

    computed : best_between e (block_size * j) (block_end n j) ≡ peak fs j
    computed =
        let m = as_long in
        let f = fits in
        rw as_long at
        (peak_computed today fs (valid_of fs (rescored-valid es i s h ok small)) e (rw (image_same, long_e) f) scored j
        (rw as_long (omega arith)))

    abbrev e' : List ℕ
    e' = sets e place top

    peak-inside : place + 2 ≤ records_at today n
    unfolding records_at
    peak-inside = omega arith

    peak_room : place + length top ≤ length e
    peak_room = let f = fits in let g = image_long today es in let p = peak-inside in
        rw (length-be, long_e) (omega arith)

    -- what stands elsewhere stays
    kept :
        (x : List ℕ) (k : ℕ) → (k + length x ≤ score_start i) ⊎ (score_start i + 4 ≤ k)
        → (k + length x ≤ place) ⊎ (place + 2 ≤ k)
        → begins x (drop k d) ≡ true → begins x (drop k e') ≡ true
    kept x k a b t = stays e top place peak_room x k (rw length-be b)
        (stays d (be 4 s) (score_start i) score_room x k (rw length-be a) t)

    peaked : (k : ℕ) → k < ceil n block_size → begins (be 2 (peak fs k)) (drop (peak_start today n k) e') ≡ true
    unfolding peaks
    peaked k l =
        by_test (eqb k j)
        (λ t. let q = eqb-true k j t in rw q (sets-stands e top place peak_room))
        (λ t.
        let q = eqb-false k j t in
        let c = counted_at (ceil n block_size) k 0 l in
        let m = length-count_from 0 (ceil n block_size) in
        rw (rescored-peak es i s k q)
        (kept (be 2 (peak es k)) (peak_start today n k) (inr (omega arith))
        (by_test (ltb k j)
        (λ u. let r = ltb-true k j u in inl (rw length-be (omega arith)))
        (λ u. let r = ltb-false k j u in inr (omega arith)))
        (rw c at (fields_each 2 (peak es) 0 (count_from 0 (ceil n block_size)) d (peaks_start today n) parts.has_peaks k
        (omega arith)))))

    sections : Sections today fs e'
    unfolding scores peaks records_at
    sections =
        let o = length-offsets today es in
        let m = length-count_from 0 (ceil n block_size) in
        record {
          has_version = kept (today.version ∷ []) 0 (inl (omega arith)) (inl (omega arith)) parts.has_version;
          has_total = rw image_same (kept (be 4 T) 1 (inl (rw length-be (omega arith)))
              (inl (rw length-be (omega arith))) parts.has_total);
          has_count = rw as_long (kept (be 2 n) 5 (inl (rw length-be (omega arith))) (inl (rw length-be (omega arith)))
              parts.has_count);
          has_scores = fields_join 4 (λ (f : Entry). f.score) no_entry fs e' 7
              (λ k l.
              let a = as_long in
              stays e top place peak_room (be 4 (at fs k).score) (score_start k) (inl (rw length-be (omega arith)))
              (scored k l));
          has_offsets = rw (rescored-offsets es i s, as_long)
              (kept (offsets today es) (7 + 4 * n) (inr (omega arith)) (inl (omega arith)) parts.has_offsets);
          has_peaks = rw as_long
              (fields_join 2 (peak fs) 0 (count_from 0 (ceil n block_size)) e' (peaks_start today n)
              (λ k l. rw (counted_at (ceil n block_size) k 0 (omega arith)) (peaked k (omega arith))));
          has_records = rw (rescored-names es i s, as_long)
              (kept (records today.heads 0 [] (names es)) (records_at today n) (inr (omega arith)) (inr (omega arith))
              parts.has_records);
        }

    image_put : put_peak today n j e ≡ image_in today fs ++ drop T d
    image_put =
        let g = image_long today es in
        let p = peak-inside in
        let q = score_inside in
        rw computed
        (begins_split (image_in today fs) e' (of_sections today fs e' sections)
        ∙ ap (λ l. image_in today fs ++ l)
        (rw image_same
        (sets_behind e top place peak_room T (rw length-be (omega arith))
        ∙ sets_behind d (be 4 s) (score_start i) score_room T (rw length-be (omega arith)))))

-- the stores of `rescore`, one after the other, where es are the entries of the book in a buffer that was checked
pub rescored_whole :
    (book : List ℕ) (es : List Entry) (d₀ : List ℕ) {d₁ d₂ d₃ : List ℕ} {n : ℕ} (i s : ℕ) {total place : ℕ}
    → Held book (length es) → in_book book ≡ es → i < length es → n ≡ length es
    → total ≡ length (book_image es) → total ≤ length d₀
    → s < 4294967296 → d₁ ≡ sets d₀ 0 (take total book) → place ≡ score_start i → d₂ ≡ sets d₁ place (be 4 s)
    → d₃ ≡ put_peak today n (i / block_size) d₂
    → d₃ ≡ overwrite d₀ (book_image (rescored es i s))
rescored_whole book es d₀ {d₁} {d₂} i s held v h c t room small copied there stored again =
    let image = image_in today es in
    let st = entries_stored held v in
    let front : d₁ ≡ overwrite d₀ (image_in today es) =
    copied ∙ rw (t, front_of_lem (image_in today es) book st.front)
    (sets-overwrite d₀ (image_in today es) (omega arith))
    in
    let stand : begins (image_in today es) d₁ ≡ true = rw front
    (begins-append image (drop (length image) d₀)) in
    let past : drop (length (image_in today es)) d₁ ≡ drop (length (image_in today (rescored es i s))) d₀ =
    rw (front, rescored_image es i s) (drop-append_seam image (drop (length image) d₀))
    in
    again
    ∙ ap (λ m. put_peak today m (i / block_size) d₂) c
    ∙ ap (put_peak today (length es) (i / block_size)) (stored ∙ ap (λ p. sets d₁ p (be 4 s)) there)
    ∙ image_put es st.ok i s h small d₁ stand
    ∙ ap (λ l. image_in today (rescored es i s) ++ l) past

-- Once all entries are put, the peaks and the frame make the image whole.
use Prim.Native.Nat.{◌*◌, ◌+◌, ◌<◌, ◌^◌, ◌≤◌, min, suc, zero, ℕ}
use mathlib.Core.Path.{◌∙◌, ◌≡◌, ap, subst, sym}
use mathlib.Core.Logic.{inl, inr}
use mathlib.Core.Bool.{true}
use mathlib.Core.List.{List, [], ◌++◌, ◌∷◌}
use lib.Dec.{ltb}
use lib.ListN.{drop, length, take}
use lib.Seq.{length-sets, sets, take_all}
use native.Mathlib.Nat.{add-zero}
use native.Mathlib.Omega.{arith}
use borrow.Author.Tests.{ltb-false, ltb-true}
use Rattle.octets.specs.Lists.{ceil, count_from}
use Rattle.octets.specs.Octets.{be, begins, overwrite}
use Rattle.octets.proofs.Coding.{length-be}
use Rattle.octets.proofs.Lists.{at_all, counted_at, length-count_from}
use Rattle.octets.proofs.Numbers.{fields_join, stands-number}
use Rattle.octets.proofs.Order.{begins_split}
use Rattle.octets.proofs.Stores.{sets_behind, sets-stands, stays}
use Rattle.octets.proofs.Tests.{by_test}
use Rattle.entries.specs.Entries.{Entry, at, names, no_entry, valid}
use Rattle.entries.specs.Names.{is_score}
use Rattle.entries.proofs.Valid.{Valid, length-names, valid_of}
use Rattle.book.specs.Records.{bucket_size, records}
use Rattle.book.specs.declared.Layout.{Layout}
use Rattle.book.specs.Book.{block_size, image_in, offset, offsets, peak, peaks, records_at, scores}
use Rattle.book_laws.specs.Check.{best_between, offset_start, peak_start, score_at, score_start}
use Rattle.book.proofs.Places.{peak_span}
use Rattle.book.proofs.Reading.{image_length}
use Rattle.book_laws.proofs.Scores.{best-between}
use Rattle.book_laws.proofs.Stored.{buckets_off, buckets_on}
use Rattle.book.proofs.Sections.{Sections, of_sections, peaks_at}
use Rattle.frame_code.specs.Stored.{put_frame}
use Rattle.book_write.specs.Writing.{finished, put_peaks}
use Rattle.book_write.proofs.Partial.{Partial}
use Rattle.book_laws.specs.declared.Cursor.{Cursor}

-- all entries are put, and the peaks of the blocks below j
record Peaking (l : Layout) (es : List Entry) (d₀ d : List ℕ) (j : ℕ) : Type 0 where
  fits : length (image_in l es) ≤ length d
  untouched : drop (length (image_in l es)) d ≡ drop (length (image_in l es)) d₀
  scored : (k : ℕ) → k < length es → begins (be 4 (at es k).score) (drop (score_start k) d) ≡ true
  bucketed : l.heads ≡ true → (k : ℕ) → bucket_size * k < length es
      → begins (be 2 (offset l es k)) (drop (offset_start (length es) k) d) ≡ true
  peaked : (k : ℕ) → k < j → begins (be 2 (peak es k)) (drop (peak_start l (length es) k) d) ≡ true
  recorded : begins (records l.heads 0 [] (names es)) (drop (records_at l (length es)) d) ≡ true

pub image_long : (l : Layout) (es : List Entry) → records_at l (length es) ≤ length (image_in l es)
image_long l es = let il = image_length l es in omega arith

-- the scores stand in a buffer: the best of a block, computed from them, is its peak
module _
    (l : Layout) (es : List Entry) (v : Valid es) (d : List ℕ) (fits : length (image_in l es) ≤ length d)
    (scored : (k : ℕ) → k < length es → begins (be 4 (at es k).score) (drop (score_start k) d) ≡ true)
  where
    scored-at : (i : ℕ) → i < length es → score_at d i ≡ (at es i).score
    unfolding score_at records_at is_score
    scored-at i m₀ =
        let g = image_long l es in
        stands-number 4 d (score_start i) (at es i).score
        (ltb-true (at es i).score (2 ^ 32) (at_all (λ e. is_score e.score) no_entry es v.fits i m₀))
        (scored i m₀) (omega arith)

    pub peak_computed :
        (j : ℕ) → block_size * j < length es
        → best_between d (block_size * j) (min (length es) (block_size * j + block_size)) ≡ peak es j
    peak_computed j h =
        best-between es v.order d scored-at (block_size * j) (min (length es) (block_size * j + block_size))
        (omega arith) (omega arith)
        ∙ sym (peak_span es j h)

module _ (l : Layout) (es : List Entry) (v : Valid es) (d₀ : List ℕ) where
  abbrev n : ℕ
  n = length es

  -- one peak more
  peak_put : (d : List ℕ) (j : ℕ) → Peaking l es d₀ d j → block_size * j < n
      → Peaking l es d₀ (sets d (peak_start l n j) (be 2 (peak es j))) (suc j)
  unfolding records_at
  peak_put d j p h =
      let f = p.fits in
      let g = image_long l es in
      let there : peak_start l n j + length (be 2 (peak es j)) ≤ length d = rw length-be (omega arith) in
      record {
        fits = rw length-sets f;
        untouched = sets_behind d (be 2 (peak es j)) (peak_start l n j) there (length (image_in l es))
            (rw length-be (omega arith)) ∙ p.untouched;
        scored = λ k m₀.
            stays d (be 2 (peak es j)) (peak_start l n j) there (be 4 (at es k).score) (score_start k)
            (inl (rw length-be (omega arith))) (p.scored k m₀);
        bucketed = λ on k m₀.
            let bk = buckets_on l.heads n on in
            stays d (be 2 (peak es j)) (peak_start l n j) there (be 2 (offset l es k)) (offset_start n k)
            (inl (rw length-be (omega arith))) (p.bucketed on k m₀);
        peaked = λ k m₀.
            by_test (ltb k j)
            (λ t.
            let q = ltb-true k j t in
            stays d (be 2 (peak es j)) (peak_start l n j) there (be 2 (peak es k)) (peak_start l n k)
            (inl (rw length-be (omega arith))) (p.peaked k q))
            (λ t.
            let q = ltb-false k j t in
            let e : k ≡ j = omega arith in
            rw e (sets-stands d (be 2 (peak es j)) (peak_start l n j) there));
        recorded = stays d (be 2 (peak es j)) (peak_start l n j) there (records l.heads 0 [] (names es))
            (records_at l n) (inr (rw length-be (omega arith))) p.recorded;
      }

  -- all of them
  peaks_put : (m j : ℕ) (d : List ℕ) → j + m ≡ ceil n block_size → Peaking l es d₀ d j
      → Peaking l es d₀ (put_peaks l m n j d) (ceil n block_size)
  peaks_put zero j d e p = subst (Peaking l es d₀ d) (sym (add-zero j) ∙ e) p
  peaks_put (suc m) j d e p =
      rw (peak_computed l es v d p.fits p.scored j (omega arith))
      (peaks_put m (suc j) (sets d (peak_start l n j) (be 2 (peak es j))) (omega arith) (peak_put d j p (omega arith)))

  -- the frame
  abbrev T : ℕ
  T = length (image_in l es)

  module _ (d : List ℕ) (p : Peaking l es d₀ d (ceil n block_size)) where
    abbrev version : List ℕ
    version = l.version ∷ []

    abbrev e₁ : List ℕ
    e₁ = sets d 0 version

    abbrev e₂ : List ℕ
    e₂ = sets e₁ 1 (be 4 T)

    abbrev e₃ : List ℕ
    e₃ = sets e₂ 5 (be 2 n)

    seven : 7 ≤ length d
    unfolding records_at
    seven = let f = p.fits in let g = image_long l es in omega arith

    long₁ : length e₁ ≡ length d
    long₁ = length-sets d 0 version

    long₂ : length e₂ ≡ length d
    long₂ = length-sets e₁ 1 (be 4 T) ∙ long₁

    room₁ : 0 + length version ≤ length d
    room₁ = let s = seven in omega arith

    room₂ : 1 + length (be 4 T) ≤ length e₁
    room₂ = let s = seven in rw (length-be, long₁) (omega arith)

    room₃ : 5 + length (be 2 n) ≤ length e₂
    room₃ = let s = seven in rw (length-be, long₂) (omega arith)

    -- what stands behind the frame stays
    kept : (x : List ℕ) (k : ℕ) → 7 ≤ k → begins x (drop k d) ≡ true → begins x (drop k e₃) ≡ true
    kept x k lo b =
        stays e₂ (be 2 n) 5 room₃ x k (inr (rw length-be (omega arith)))
        (stays e₁ (be 4 T) 1 room₂ x k (inr (rw length-be (omega arith)))
        (stays d version 0 room₁ x k (inr (omega arith)) b))

    offsets_join : begins (offsets l es) (drop (7 + 4 * n) e₃) ≡ true
    unfolding offsets
    offsets_join =
        by_test l.heads
        (λ on.
        let bs = length-count_from 0 (ceil n bucket_size) in
        rw (buckets_on l.heads n on)
        (fields_join 2 (offset l es) 0 (count_from 0 (ceil n bucket_size)) e₃ (7 + 4 * n)
        (λ k m₀. rw (counted_at (ceil n bucket_size) k 0 (omega arith))
        (kept (be 2 (offset l es k)) (offset_start n k) (omega arith) (p.bucketed on k (omega arith))))))
        (λ off. rw (buckets_off l.heads n off))

    framed_sections : Sections l es e₃
    unfolding scores peaks records_at
    framed_sections =
        let ps = length-count_from 0 (ceil n block_size) in
        record {
          has_version = stays e₂ (be 2 n) 5 room₃ version 0 (inl (omega arith))
              (stays e₁ (be 4 T) 1 room₂ version 0 (inl (omega arith)) (sets-stands d version 0 room₁));
          has_total = stays e₂ (be 2 n) 5 room₃ (be 4 T) 1 (inl (rw length-be (omega arith)))
              (sets-stands e₁ (be 4 T) 1 room₂);
          has_count = sets-stands e₂ (be 2 n) 5 room₃;
          has_scores = fields_join 4 (λ (f : Entry). f.score) no_entry es e₃ 7
              (λ k m₀. kept (be 4 (at es k).score) (score_start k) (omega arith) (p.scored k m₀));
          has_offsets = offsets_join;
          has_peaks = fields_join 2 (peak es) 0 (count_from 0 (ceil n block_size)) e₃ (peaks_at l n)
              (λ k m₀. rw (counted_at (ceil n block_size) k 0 (omega arith))
              (kept (be 2 (peak es k)) (peak_start l n k) (omega arith) (p.peaked k (omega arith))));
          has_records = kept (records l.heads 0 [] (names es)) (records_at l n) (omega arith) p.recorded;
        }

    framed_whole : put_frame l.version T n d ≡ overwrite d₀ (image_in l es)
    unfolding put_frame records_at
    framed_whole =
        let g = image_long l es in
        let q = begins_split (image_in l es) e₃ (of_sections l es e₃ framed_sections) in
        let r : drop T e₃ ≡ drop T d₀ =
        sets_behind e₂ (be 2 n) 5 room₃ T (rw length-be (omega arith))
        ∙ sets_behind e₁ (be 4 T) 1 room₂ T (rw length-be (omega arith))
        ∙ sets_behind d version 0 room₁ T (omega arith)
        ∙ p.untouched
        in
        q ∙ ap (λ z. image_in l es ++ z) r

-- the whole book
pub finished_whole :
    (l : Layout) (es : List Entry) → valid es ≡ true → (d₀ : List ℕ) (c : Cursor) (d : List ℕ) → Partial l es d₀ c d
    → c.index ≡ length es
    → finished l (length (image_in l es)) (length es) d ≡ overwrite d₀ (image_in l es)
unfolding finished
finished_whole l es ok d₀ c d p e =
    let v = valid_of es ok in
    let n = length-names es in
    let whole : take (length es) (names es) ≡ names es = take_all (length es) (names es) (omega arith) in
    let start : Peaking l es d₀ d 0 =
    record {
      fits = p.fits;
      untouched = p.untouched;
      scored = rw e at p.scored;
      bucketed = rw e at p.bucketed;
      peaked = λ k m₀. absurd (omega arith);
      recorded = rw (e, whole) at p.recorded;
    }
    in
    framed_whole l es v d₀ (put_peaks l (ceil (length es) block_size) (length es) 0 d)
    (peaks_put l es v d₀ (ceil (length es) block_size) 0 d (omega arith) start)

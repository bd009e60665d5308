-- The check accepts exactly the buffers that are read.
use Prim.Native.Nat.{◌*◌, ◌+◌, ◌-◌, ◌<◌, ◌^◌, ◌≤◌, min, suc, zero, ℕ}
use mathlib.Core.Path.{◌∙◌, ◌≡◌, ap, refl, sym}
use mathlib.Core.Bool.{Bool, ◌&&◌, false, false≢true, true}
use mathlib.Core.List.{List, [], ◌∷◌}
use mathlib.Core.Option.{Option, none, some}
use lib.Dec.{eqb}
use lib.ListN.{drop, get_or, length, take}
use lib.Seq.{drop-drop}
use native.Mathlib.Nat.{add-zero}
use native.Mathlib.Omega.{arith}
use borrow.Author.Tests.{eq-eqb, eqb-true, le-leb, leb-true, lt-ltb}
use Rattle.octets.specs.Lists.{all, ceil, count_from}
use Rattle.octets.specs.Octets.{begins, below, from_be, number_at}
use Rattle.octets.proofs.Lists.{all-at, all_both, all_imp, counted_at, length-count_from}
use Rattle.octets.proofs.Numbers.{Bytes, fields_stand, number-below, number-stands}
use Rattle.octets.proofs.Order.{begins_first}
use Rattle.octets.proofs.Tests.{and_true_both, by_test}
use Rattle.entries.specs.Entries.{Entry, at, name_below, names, no_entry, rising, valid}
use Rattle.entries.specs.Names.{is_name, is_score}
use Rattle.entries.proofs.BestList.{above}
use Rattle.entries.proofs.Valid.{length-names, name_above, rising_head, rising_tail, valid_intro, valid_of}
use Rattle.book.specs.Records.{bucket_size, names_from, record_length, record_name, records}
use Rattle.frame.specs.Frame.{is_read}
use Rattle.book.specs.declared.Layout.{Layout}
use Rattle.book.specs.Book.{block_size, buckets, entries_from, image_in, is_book_in, offset, offsets, peak, peaks, read_in}
use Rattle.book.specs.Book.{records_at, scores, scores_from}
use Rattle.book_laws.specs.Check.{best_between, checks, offset_at, peak_at, peaks_are, records_end, score_at}
use Rattle.book_laws.specs.Check.{score_start}
use Rattle.frame_laws.proofs.Test.{FrameTests, ends_some, frame_passes, frame_tests, version_stands}
use Rattle.book.proofs.Places.{peak_span}
use Rattle.book.proofs.Reading.{exact_in, image_length}
use Rattle.book_laws.proofs.Scores.{best-between}
use Rattle.book.proofs.Sections.{Sections, of_sections, peaks_at, sections_of}
use Rattle.book_laws.proofs.Stored.{StoredIn, buckets_off, buckets_on, stored}
use Rattle.book_laws.proofs.Walk.{Walked, chained, walk_complete, walk_sound}

-- lists that are read have as many elements as asked for
length-names_from : (heads : Bool) (n i : ℕ) (prev bs : List ℕ) → length (names_from heads n i prev bs) ≡ n
length-names_from heads zero i prev bs = refl
length-names_from heads (suc n) i prev bs =
    ap suc (length-names_from heads n (suc i) (record_name heads i prev bs) (drop (record_length heads i bs) bs))

length-scores_from : (n : ℕ) (bs : List ℕ) → length (scores_from n bs) ≡ n
length-scores_from zero bs = refl
length-scores_from (suc n) bs = ap suc (length-scores_from n (drop 4 bs))

scores_from-at : (n : ℕ) (bs : List ℕ) (i : ℕ) → i < n → get_or (scores_from n bs) i 0 ≡ from_be (take 4 (drop (4 * i) bs))
scores_from-at zero bs i h = absurd (omega arith)
scores_from-at (suc n) bs zero h = refl
scores_from-at (suc n) bs (suc i) h =
    let z : 4 + 4 * i ≡ 4 * suc i = omega arith in
    scores_from-at n (drop 4 bs) i (omega arith)
    ∙ ap (λ l. from_be (take 4 l)) (drop-drop (4 * i) 4 bs ∙ ap (λ k. drop k bs) z)

-- entries made of names and as many scores
entries_from-names : (ws : List (List ℕ)) (ss : List ℕ) → length ws ≡ length ss → names (entries_from ws ss) ≡ ws
entries_from-names [] ss h = refl
entries_from-names (w ∷ ws) [] h = absurd (omega arith)
entries_from-names (w ∷ ws) (s ∷ ss) h = ap (λ l. w ∷ l) (entries_from-names ws ss (omega arith))

entries_from_score :
    (ws : List (List ℕ)) (ss : List ℕ) (i : ℕ) → length ws ≡ length ss → i < length ss
    → (at (entries_from ws ss) i).score ≡ get_or ss i 0
entries_from_score [] ss i h l = absurd (omega arith)
entries_from_score (w ∷ ws) [] i h l = absurd (omega arith)
entries_from_score (w ∷ ws) (s ∷ ss) zero h l = refl
entries_from_score (w ∷ ws) (s ∷ ss) (suc i) h l = entries_from_score ws ss i (omega arith) (omega arith)

-- names, each above the one before it, are strictly rising
pub chained_rising : (prev : List ℕ) (es : List Entry) → chained prev (names es) ≡ true → rising es ≡ true
chained_rising prev [] h = refl
chained_rising prev (e ∷ []) h = refl
chained_rising prev (e ∷ f ∷ es) h =
    let a = (and_true_both (below prev e.name) (chained e.name (names (f ∷ es))) h).1 in
    let b = and_true_both (name_below e f) (chained f.name (names es)) a in
    rw b.0 (chained_rising e.name (f ∷ es) a)

pub rising_chained : (prev : List ℕ) (es : List Entry) → all (λ e. below prev e.name) es ≡ true → rising es ≡ true
    → chained prev (names es) ≡ true
rising_chained prev [] a h = refl
rising_chained prev (e ∷ es) a h =
    rw (and_true_both (below prev e.name) (all (λ f. below prev f.name) es) a).0
    (rising_chained e.name es (rising_head e es h) (rising_tail e es h))

all-names : (p : List ℕ → Bool) (es : List Entry) → all p (names es) ≡ all (λ e. p e.name) es
all-names p [] = refl
all-names p (e ∷ es) = ap (λ b. p e.name && b) (all-names p es)

-- In every layout: peaks.
module _ (l : Layout) where
  peaks_sound :
      (m n j : ℕ) (buf : List ℕ) → peaks_are l m n j buf ≡ true → (i : ℕ) → i < m
      → peak_at l buf n (j + i) ≡ best_between buf (block_size * (j + i)) (min n (block_size * (j + i) + block_size))
  peaks_sound zero n j buf h i m₀ = absurd (omega arith)
  peaks_sound (suc m) n j buf h zero m₀ =
      rw (add-zero j)
      (eqb-true _ _ (and_true_both (eqb (peak_at l buf n j)
      (best_between buf (block_size * j) (min n (block_size * j + block_size)))) (peaks_are l m n (suc j) buf) h).0)
  peaks_sound (suc m) n j buf h (suc i) m₀ =
      let z : j + suc i ≡ suc j + i = omega arith in
      rw z
      (peaks_sound m n (suc j) buf
      (and_true_both (eqb (peak_at l buf n j) (best_between buf (block_size * j) (min n (block_size * j + block_size))))
      (peaks_are l m n (suc j) buf) h).1
      i (omega arith))

  peaks_complete :
      (m n j : ℕ) (buf : List ℕ)
      → ((i : ℕ) → i < m
      → peak_at l buf n (j + i) ≡ best_between buf (block_size * (j + i)) (min n (block_size * (j + i) + block_size)))
      → peaks_are l m n j buf ≡ true
  peaks_complete zero n j buf h = refl
  peaks_complete (suc m) n j buf h =
      rw (eq-eqb (peak_at l buf n j) (best_between buf (block_size * j) (min n (block_size * j + block_size)))
      (rw (add-zero j) at (h 0 (omega arith))))
      (peaks_complete m n (suc j) buf (λ i m₀. let z : j + suc i ≡ suc j + i = omega arith in
      rw z at (h (suc i) (omega arith))))

  -- the tests that have been passed
  record Tests (buf : List ℕ) : Type 0 where
    frame : FrameTests l.version buf
    room : records_at l (number_at 2 buf 5) ≤ length buf
    ends : records_end l (number_at 2 buf 5) (number_at 2 buf 5) 0 [] (records_at l (number_at 2 buf 5)) buf ≡ some
        (number_at 4 buf 1)
    peaked : peaks_are l (ceil (number_at 2 buf 5) block_size) (number_at 2 buf 5) 0 buf ≡ true

  tests_of : (buf : List ℕ) → checks l buf ≡ true → Tests buf
  unfolding checks
  tests_of buf h =
      let a = and_true_both _ _ h in
      let b = and_true_both _ _ a.1 in
      let c = and_true_both _ _ b.1 in
      record {
        frame = frame_tests l.version buf a.0;
        room = leb-true (records_at l (number_at 2 buf 5)) (length buf) b.0;
        ends = ends_some (number_at 4 buf 1) _ c.0;
        peaked = c.1;
      }

  of_tests : (buf : List ℕ) → Tests buf → checks l buf ≡ true
  unfolding checks
  of_tests buf t =
      rw (
        frame_passes l.version buf t.frame,
        le-leb (records_at l (number_at 2 buf 5)) (length buf) t.room,
        t.ends,
        eq-eqb (number_at 4 buf 1) (number_at 4 buf 1) refl,
      )
      t.peaked

  -- a buffer that passes is read
  module _ (buf : List ℕ) (b : Bytes buf) (t : Tests buf) where
    abbrev n : ℕ
    n = number_at 2 buf 5

    abbrev ws : List (List ℕ)
    ws = names_from l.heads n 0 [] (drop (records_at l n) buf)

    abbrev es : List Entry
    es = entries_from ws (scores_from n (drop 7 buf))

    as_many_lem : length ws ≡ length (scores_from n (drop 7 buf))
    as_many_lem = length-names_from l.heads n 0 [] (drop (records_at l n) buf) ∙ sym (length-scores_from n (drop 7 buf))

    es_names : names es ≡ ws
    es_names = entries_from-names ws (scores_from n (drop 7 buf)) as_many_lem

    es_length : length es ≡ n
    es_length = sym (length-names es) ∙ ap length es_names
        ∙ length-names_from l.heads n 0 [] (drop (records_at l n) buf)

    walked : Walked l n 0 [] (records_at l n) ws buf
        × (number_at 4 buf 1 ≡ records_at l n + length (records l.heads 0 [] ws))
    walked = walk_sound l n n 0 [] (records_at l n) buf (number_at 4 buf 1) t.ends

    es_score : (i : ℕ) → i < length es → score_at buf i ≡ (at es i).score
    unfolding score_at number_at records_at
    es_score i m₀ =
        let m = es_length in
        let r = t.room in
        let s = length-scores_from n (drop 7 buf) in
        let f = scores_from-at n (drop 7 buf) i (omega arith) in
        let g = entries_from_score ws (scores_from n (drop 7 buf)) i as_many_lem (omega arith) in
        rw (
          le-leb (score_start i + 4) (length buf) (omega arith),
          g,
          f,
        ) (ap (λ z. from_be (take 4 z)) (sym (drop-drop (4 * i) 7 buf)))

    es_score' : (i : ℕ) → i < length es → number_at 4 buf (score_start i) ≡ (at es i).score
    unfolding score_at
    es_score' i m₀ = es_score i m₀

    es_rising : rising es ≡ true
    es_rising = chained_rising [] es (rw es_names walked.0.above)

    es_valid : valid es ≡ true
    unfolding is_score score_at records_at
    es_valid =
        let m = es_length in
        let f = t.frame.few in
        let r = t.room in
        valid_intro es (omega arith)
        (all_both (λ e. is_name e.name) (λ e. is_score e.score) es
        (sym (all-names is_name es) ∙ (rw es_names walked.0.allowed))
        (all-at (λ e. is_score e.score) no_entry es
        (λ i m₀. rw (← es_score i m₀) (lt-ltb (number_at 4 buf (score_start i)) (2 ^ 32)
        (number-below 4 buf (score_start i) b (omega arith))))))
        es_rising

    es_offset : l.heads ≡ true → (j : ℕ) → bucket_size * j < length es → offset_at buf (length es) j ≡ offset l es j
    unfolding offset
    es_offset on j m₀ =
        let k = ap length es_names in
        let m = length-names es in
        let z : bucket_size * j - 0 ≡ bucket_size * j = omega arith in
        rw (es_length, es_names) (rw z at (walked.0.offsets j on (omega arith) (omega arith)))

    es_peak : (j : ℕ) → block_size * j < length es → peak_at l buf (length es) j ≡ peak es j
    es_peak j m₀ =
        let m = es_length in
        let z : 0 + j ≡ j = omega arith in
        let p = rw z at (peaks_sound (ceil n block_size) n 0 buf t.peaked j (omega arith)) in
        let q = best-between es es_rising buf es_score (block_size * j) (min (length es) (block_size * j + block_size))
        (omega arith) (omega arith) in
        rw (peak_span es j m₀, ← q, m) p

    offsets_stand : begins (offsets l es) (drop (7 + 4 * length es) buf) ≡ true
    unfolding offsets records_at
    offsets_stand =
        let m = es_length in
        let r = t.room in
        by_test l.heads
        (λ o.
        let bs = length-count_from 0 (ceil (length es) bucket_size) in
        rw (buckets_on l.heads (length es) o)
        (fields_stand 2 (offset l es) 0 (count_from 0 (ceil (length es) bucket_size)) buf (7 + 4 * length es) b
        (omega (arith, (buckets_on l.heads n o)))
        (λ j m₀. rw (counted_at (ceil (length es) bucket_size) j 0 (omega arith)) (es_offset o j (omega arith)))))
        (λ o. rw (buckets_off l.heads (length es) o))

    es_sections : Sections l es buf
    unfolding scores peaks records_at
    es_sections =
        let m = es_length in
        let r = t.room in
        let g = t.frame.long in
        let i = image_length l es in
        let bk : buckets l.heads (length es) ≡ buckets l.heads n = ap (buckets l.heads) m in
        let e : length (records l.heads 0 [] (names es)) ≡ length (records l.heads 0 [] ws) =
        ap (λ vs. length (records l.heads 0 [] vs)) es_names
        in
        let o = walked.1 in
        let ps = length-count_from 0 (ceil (length es) block_size) in
        record {
          has_version = version_stands l.version buf t.frame;
          has_total = number-stands 4 buf 1 b (omega arith) (length (image_in l es)) (omega arith);
          has_count = number-stands 2 buf 5 b (omega arith) (length es) (sym m);
          has_scores = fields_stand 4 (λ (f : Entry). f.score) no_entry es buf 7 b (omega arith) es_score';
          has_offsets = offsets_stand;
          has_peaks = fields_stand 2 (peak es) 0 (count_from 0 (ceil (length es) block_size)) buf (peaks_at l (length es))
              b (omega arith)
              (λ j m₀. rw (counted_at (ceil (length es) block_size) j 0 (omega arith)) (es_peak j (omega arith)));
          has_records = rw (m, es_names) walked.0.stands;
        }

    passes_read : read_in l buf ≡ some es
    passes_read = (exact_in l).complete es buf es_valid (of_sections l es buf es_sections)

  -- a buffer that is read passes
  module _ (buf : List ℕ) (es : List Entry) (s : StoredIn l buf es) where
    read_walked : Walked l (length es) 0 [] (records_at l (length es)) (names es) buf
    unfolding offset
    read_walked =
        let v = valid_of es s.ok in
        let m = length-names es in
        record {
          stands = (sections_of l es buf s.front).has_records;
          allowed = all-names is_name es ∙ v.allowed;
          above = rising_chained [] es (all_imp (λ e. is_name e.name) (λ e. below [] e.name)
              (λ e h. name_above e.name h) es v.allowed) v.order;
          offsets = λ j on lo hi. let z : bucket_size * j - 0 ≡ bucket_size * j = omega arith in
              rw z (s.offset_at on j (omega arith));
        }

    read_passes : Tests buf
    unfolding records_at
    read_passes =
        let v = valid_of es s.ok in
        let few = v.few in
        let i = image_length l es in
        let inside = s.inside in
        let c = s.count in
        let w : records_end l (length es) (length es) 0 [] (records_at l (length es)) buf ≡ some (length (image_in l es)) =
        rw (length-names es, ← i) at (walk_complete l (names es) (length es) 0 [] (records_at l (length es)) buf
        read_walked)
        in
        record {
          frame = record {
            long = omega arith;
            version = begins_first l.version buf (sections_of l es buf s.front).has_version;
            few = rw c few;
            fits = rw s.total inside;
          };
          room = rw c (omega arith);
          ends = rw (c, s.total) w;
          peaked = rw c (peaks_complete (ceil (length es) block_size) (length es) 0 buf read_peak);
        }
      where
        read_peak :
            (j : ℕ) → j < ceil (length es) block_size
            → peak_at l buf (length es) (0 + j)
            ≡ best_between buf (block_size * (0 + j)) (min (length es) (block_size * (0 + j) + block_size))
        read_peak j m₀ =
            let z : 0 + j ≡ j = omega arith in
            rw (
              z,
              s.peak_at j (omega arith),
              peak_span es j (omega arith),
              best-between es (valid_of es s.ok).order buf s.scored_at (block_size * j)
                  (min (length es) (block_size * j + block_size)) (omega arith) (omega arith),
            )

  -- accepted exactly where it is read
  pub check_exact : (buf : List ℕ) → Bytes buf → checks l buf ≡ is_book_in l buf
  check_exact buf b =
      by_test (checks l buf)
      (λ t. rw (t, passes_read buf b (tests_of buf t)))
      (λ t. refused t (read_in l buf) refl)
    where
      refused : checks l buf ≡ false → (o : Option (List Entry)) → read_in l buf ≡ o → checks l buf ≡ is_read o
      refused t none e = t
      refused t (some fs) e = absurd (false≢true (sym t ∙ of_tests buf (read_passes buf fs (stored l buf fs e))))

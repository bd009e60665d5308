-- One entry more: what stood in the buffer stays, and the entry's score, its bucket's offset and its record stand.
use Prim.Native.Nat.{◌%◌, ◌*◌, ◌+◌, ◌/◌, ◌<◌, ◌≤◌, suc, ℕ}
use mathlib.Core.Path.{◌∙◌, ◌≡◌, ap, sym}
use mathlib.Core.Logic.{◌⊎◌, inl, inr}
use mathlib.Core.Bool.{true}
use mathlib.Core.List.{List, []}
use lib.Dec.{eqb, ltb}
use lib.ListN.{drop, length, take}
use lib.Seq.{length-sets, sets}
use native.Mathlib.Numerals.{add-one}
use native.Mathlib.Omega.{arith}
use borrow.Author.Tests.{eq-eqb, eqb-false, eqb-true, ltb-false, ltb-true}
use Rattle.octets.specs.Octets.{be, begins}
use Rattle.octets.proofs.Coding.{length-be}
use Rattle.octets.proofs.Order.{begins-at}
use Rattle.octets.proofs.Stores.{sets_behind, sets-stands, stays}
use Rattle.octets.proofs.Tests.{and_intro, by_test, other}
use Rattle.entries.specs.Entries.{Entry, at, names}
use Rattle.entries.specs.Names.{longest_name}
use Rattle.book_laws.specs.Check.{offset_start, score_start}
use Rattle.book_laws.specs.Cursor.{name_in}
use Rattle.book.specs.Records.{bucket_size, head_at, last_or, record_of, records}
use Rattle.book.specs.declared.Layout.{Layout}
use Rattle.book.specs.Book.{image_in, offset, records_at}
use Rattle.book.proofs.Records.{head_parts, head_there}
use Rattle.book_laws.proofs.Stored.{buckets_on}
use Rattle.book_laws.proofs.Front.{last_next, record_next, records_next}
use Rattle.book_write.specs.Writing.{put_entry, put_offset}
use Rattle.book_write.proofs.Partial.{Partial, record_within}
use Rattle.book_laws.specs.declared.Cursor.{Cursor}

module _
    (l : Layout) (es : List Entry) (d₀ : List ℕ) (c : Cursor) (d : List ℕ) (p : Partial l es d₀ c d)
    (h : c.index < length es)
  where
    abbrev i : ℕ
    i = c.index

    abbrev n : ℕ
    n = length es

    abbrev w : List ℕ
    w = (at es c.index).name

    abbrev record_bytes : List ℕ
    record_bytes = record_of l.heads i (name_in c) w

    abbrev slot : ℕ
    slot = offset_start n (i / bucket_size)

    abbrev d₁ : List ℕ
    d₁ = sets d (score_start i) (be 4 (at es i).score)

    abbrev d₂ : List ℕ
    d₂ = put_offset l n i c.at d₁

    abbrev d₃ : List ℕ
    d₃ = put_entry l n i (name_in c) c.at (at es i) d

    -- there is room
    pub room : c.at + length record_bytes ≤ length (image_in l es)
    room = rw (p.start, p.name) (record_within l es i h)

    starts : records_at l n ≤ c.at
    starts = let q = p.start in omega arith

    long₁ : length d₁ ≡ length d
    long₁ = length-sets d (score_start i) (be 4 (at es i).score)

    long₂ : length d₂ ≡ length d
    unfolding put_offset
    long₂ = by_test (head_at l.heads i) (λ t. rw t (length-sets d₁ slot (be 2 c.at) ∙ long₁)) (λ t. rw t long₁)

    long₃ : length d₃ ≡ length d
    unfolding put_entry
    long₃ = length-sets d₂ c.at record_bytes ∙ long₂

    score_room : score_start i + length (be 4 (at es i).score) ≤ length d
    unfolding records_at
    score_room = let f = p.fits in let r = room in let s = starts in rw length-be (omega arith)

    heads_on : head_at l.heads i ≡ true → l.heads ≡ true
    heads_on t = (head_parts l.heads i t).0

    slot_room : head_at l.heads i ≡ true → slot + length (be 2 c.at) ≤ length d₁
    unfolding records_at
    slot_room t =
        let f = p.fits in
        let r = room in
        let s = starts in
        let b = buckets_on l.heads n (heads_on t) in
        rw (long₁, length-be) (omega arith)

    record_room : c.at + length record_bytes ≤ length d₂
    record_room = let f = p.fits in let r = room in rw long₂ (omega arith)

    -- what stood stays
    after-offset :
        (x : List ℕ) (k : ℕ) → (head_at l.heads i ≡ true → (k + length x ≤ slot) ⊎ (slot + 2 ≤ k))
        → begins x (drop k d₁) ≡ true
        → begins x (drop k d₂) ≡ true
    unfolding put_offset
    after-offset x k o b =
        by_test (head_at l.heads i)
        (λ t. rw t (stays d₁ (be 2 c.at) slot (slot_room t) x k (rw length-be (o t)) b))
        (λ t. rw t b)

    after_record : (x : List ℕ) (k : ℕ) → (k + length x ≤ c.at) ⊎ (c.at + length record_bytes ≤ k)
        → begins x (drop k d₂) ≡ true → begins x (drop k d₃) ≡ true
    unfolding put_entry
    after_record x k o b = stays d₂ record_bytes c.at record_room x k o b

    after_score : (x : List ℕ) (k : ℕ) → (k + length x ≤ score_start i) ⊎ (score_start i + 4 ≤ k)
        → begins x (drop k d) ≡ true → begins x (drop k d₁) ≡ true
    after_score x k o b = stays d (be 4 (at es i).score) (score_start i) score_room x k (rw length-be o) b

    -- scores
    score_stands_lem : (k : ℕ) → k < suc i → begins (be 4 (at es k).score) (drop (score_start k) d₃) ≡ true
    unfolding records_at
    score_stands_lem k m₀ =
        let s = starts in
        after_record (be 4 (at es k).score) (score_start k) (inl (rw length-be (omega arith)))
        (after-offset (be 4 (at es k).score) (score_start k) (λ t. inl (rw length-be (omega arith)))
        (by_test (ltb k i)
        (λ t. let q = ltb-true k i t in
        after_score (be 4 (at es k).score) (score_start k) (inl (rw length-be (omega arith))) (p.scored k q))
        (λ t. let q = ltb-false k i t in let e : k ≡ i = omega arith in
        rw e (sets-stands d (be 4 (at es i).score) (score_start i) score_room))))

    -- the offset of the bucket whose head this is
    head_offset : l.heads ≡ true → (k : ℕ) → bucket_size * k ≡ i
        → begins (be 2 (offset l es k)) (drop (offset_start n k) d₂) ≡ true
    unfolding put_offset offset
    head_offset on k e =
        let hd : head_at l.heads i ≡ true = head_there l.heads i on (eq-eqb (i % bucket_size) 0 (omega arith)) in
        let f : i / bucket_size ≡ k = omega arith in
        rw (e, ← p.start, ← f, hd) (sets-stands d₁ (be 2 c.at) slot (slot_room hd))

    record_stands : begins record_bytes (drop c.at d₃) ≡ true
    unfolding put_entry
    record_stands = sets-stands d₂ record_bytes c.at record_room

    -- offsets
    offset_stands' : l.heads ≡ true → (j : ℕ) → bucket_size * j < suc i
        → begins (be 2 (offset l es j)) (drop (offset_start n j) d₃) ≡ true
    unfolding records_at
    offset_stands' on j m₀ =
        let s = starts in
        let bk = buckets_on l.heads n on in
        after_record (be 2 (offset l es j)) (offset_start n j) (inl (rw length-be (omega arith)))
        (by_test (eqb (bucket_size * j) i)
        (λ t. head_offset on j (eqb-true (bucket_size * j) i t))
        (λ t.
        let q = eqb-false (bucket_size * j) i t in
        let m : bucket_size * j < i = other (bucket_size * j) i (omega arith) q in
        after-offset (be 2 (offset l es j)) (offset_start n j)
        (λ u. let z = eqb-true (i % bucket_size) 0 (head_parts l.heads i u).1 in inl (rw length-be (omega arith)))
        (after_score (be 2 (offset l es j)) (offset_start n j) (inr (omega arith)) (p.bucketed on j m))))

    -- records
    records_stand' : begins (records l.heads 0 [] (take (suc i) (names es))) (drop (records_at l n) d₃) ≡ true
    unfolding records_at
    records_stand' =
        let s = starts in
        let q = p.start in
        let before = records l.heads 0 [] (take i (names es)) in
        rw (
          records_next l es i h,
          begins-at before (record_of l.heads i (last_or [] (take i (names es))) w) d₃
              (records_at l n),
          ← q,
          ← p.name,
        )
        (and_intro _ _
        (after_record before (records_at l n) (inl (omega arith))
        (after-offset before (records_at l n) (λ t. let bk = buckets_on l.heads n (heads_on t) in
        inr (omega arith)) (after_score before (records_at l n) (inr (omega arith)) p.recorded)))
        record_stands)

    -- what lies past the image
    past : drop (length (image_in l es)) d₃ ≡ drop (length (image_in l es)) d
    unfolding put_entry put_offset records_at
    past =
        let s = starts in
        let r = room in
        sets_behind d₂ record_bytes c.at record_room (length (image_in l es)) room
        ∙ by_test (head_at l.heads i)
        (λ t. let bk = buckets_on l.heads n (heads_on t) in
        rw t (sets_behind d₁ (be 2 c.at) slot (slot_room t) (length (image_in l es)) (rw length-be (omega arith))))
        (λ t. rw t)
        ∙ sets_behind d (be 4 (at es i).score) (score_start i) score_room (length (image_in l es))
        (rw length-be (omega arith))

    -- one entry more is put
    pub partial_put :
        (c' : Cursor) → c'.index ≡ i + 1 → c'.at ≡ c.at + length record_bytes → name_in c' ≡ w
        → c'.len ≤ longest_name → Partial l es d₀ c' d₃
    partial_put c' x y z sm =
        let e : c'.index ≡ suc i = x ∙ add-one i in
        let m = record_next l es i h in
        let o : length record_bytes ≡ length (record_of l.heads i (last_or [] (take i (names es))) w) = ap
        (λ u. length (record_of l.heads i u w)) p.name in
        let q = p.start in
        record {
          fits = rw long₃ p.fits;
          same_length = long₃ ∙ p.same_length;
          untouched = past ∙ p.untouched;
          index = rw e h;
          start = rw e (omega arith);
          name = rw e (z ∙ sym (last_next l es i h));
          small = sm;
          scored = rw e score_stands_lem;
          bucketed = rw e offset_stands';
          recorded = rw e records_stand';
        }

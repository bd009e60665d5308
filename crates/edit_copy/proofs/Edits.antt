-- Each edit, written by its plan: what is asked of the stores, and the image that they leave.
use Prim.Native.Nat.{◌+◌, ◌-◌, ◌<◌, ◌≤◌, suc, ℕ}
use mathlib.Core.Path.{◌∙◌, ◌≡◌, ap, refl, sym}
use mathlib.Core.Bool.{false}
use mathlib.Core.List.{List, [], ◌++◌}
use lib.ListN.{drop, length, length-append, take}
use lib.Seq.{length-sets, sets}
use native.Mathlib.Omega.{arith}
use Rattle.octets.specs.Octets.{common, overwrite}
use Rattle.octets.proofs.Common.{common-front}
use Rattle.entries.specs.Entries.{Entry, entry, names, with, without}
use Rattle.book.specs.Records.{record_of}
use Rattle.book.specs.declared.Layout.{Layout}
use Rattle.book.specs.Book.{image_in, in_book_in, records_at, scores}
use Rattle.book.proofs.Size.{book_length_lem}
use Rattle.book.proofs.Splices.{image_off, record_is_lem}
use Rattle.book_record_write.specs.Written.{RecordPut, RecordRoom}
use Rattle.book_write.specs.Writing.{finished}
use Rattle.book_seek.specs.declared.Seek.{Seek}
use Rattle.edit_copy.specs.Asked.{Adds, Sought, Withdraws}
use Rattle.edit_copy.specs.Copies.{BehindRoom, Planned, PlannedWith, PlannedWithout}
use Rattle.edit_copy.specs.Copies.{after, behind_bytes, part, scores_with, scores_without}
use Rattle.edit_copy.proofs.Plans.{left_shared, left_within, new_short}
use Rattle.edit_copy.proofs.Results.{front, front_long, front-run, prev, with-count, with-records, with-scores}
use Rattle.edit_copy.proofs.Results.{with-valid, without-count, without-records, without-scores, without-valid}
use Rattle.edit_copy.proofs.Written.{runs_stored, stored_whole}
use Rattle.edit_copy.specs.declared.Plan.{Plan}

-- the record of a name behind another, from the bytes that the two share
record_shared :
    (i k : ℕ) (p w : List ℕ) → k ≡ common p w → k ≤ length w → record_of false i (take k w) w ≡ record_of false 0 p w
record_shared i k p w e h =
    record_is_lem i (take k w) w
    ∙ rw (common-front k w h, e) (sym (record_is_lem 0 p w))

-- what a plan asks for behind the place
pub plan_room :
    {l : Layout} {book : List ℕ} {n count : ℕ} {s : Seek} {own bs : List ℕ} {p : Plan}
    → Planned l book n count s own bs p → p.total ≤ 65536 → BehindRoom p.at book p.end p.behind
plan_room {p = p} h most =
    let x = h.at in
    let y = h.total in
    record {
      near = omega arith;
      small = h.small;
      within = h.behind.within;
      order = h.behind.order;
      inside = h.behind.inside;
    }

module _ {l : Layout} {book : List ℕ} {n : ℕ} {w : List ℕ} {s : Seek} {p : Plan} where
  -- a new entry
  module _ (new : Adds l book n w s) (h : PlannedWith l book n w s p) (score : ℕ) (fits : score < 4294967296) where
    abbrev result : List Entry
    result = with (entry w score) (in_book_in l book)

    a : Sought l book n w s
    a = new.sought

    pub with_total : p.total ≡ length (image_in l result)
    with_total =
        let c = with-count a new score in
        let i = image_off l a.off result ∙ ap (λ k. records_at l k + length (after [] (names result))) (sym c) in
        let r = ap length (with-records a new score) in
        let t = h.total in
        let f = front_long a in
        let own = record_of false 0 (prev a) w in
        let bs = after w (drop s.place (names (in_book_in l book))) in
        let x = length-append (front a) (own ++ bs) in
        let y = length-append own bs in
        omega arith

    pub with_most : p.total ≤ 55559
    with_most = let t = with_total in let b = book_length_lem l result (with-valid a new score fits) in omega arith

    -- the stores in front of the record
    module _ (d : List ℕ) (room : p.total ≤ length d) {d₁ d₂ : List ℕ}
        (e₁ : d₁ ≡ sets d 7 (scores_with book n s.place score))
        (e₂ : d₂ ≡ sets d₁ p.new (part p.old s.at book)) where
      abbrev own : List ℕ
      own = record_of false s.place (take s.below w) w

      own_is : own ≡ record_of false 0 (prev a) w
      own_is = record_shared s.place s.below (prev a) w (left_shared a) (left_within a)

      pub record_room : RecordRoom d₂ p.start own w
      record_room =
          let x = ap length e₂ ∙ length-sets d₁ p.new (part p.old s.at book) in
          let y = ap length e₁ ∙ length-sets d 7 (scores_with book n s.place score) in
          let z = ap length own_is in
          let t = h.total in
          let u = h.start in
          record { fits = omega arith; small = new_short a new }

      pub with_stored :
          {d₃ d₄ d₅ : List ℕ} {r : ℕ} → RecordPut d₂ d₃ p.start own r
          → d₄ ≡ sets d₃ p.at (behind_bytes book p.end p.behind) → d₅ ≡ finished l p.total (n + 1) d₄
          → d₅ ≡ overwrite d (image_in l result)
      with_stored {d₃} {d₄} put e₄ e₅ =
          let f = front_long a in
          let first : d₁ ≡ sets d 7 (scores result) = e₁ ∙ ap (sets d 7) (with-scores a new score) in
          let run : part p.old s.at book ≡ front a =
          ap (λ k. part k s.at book) h.old ∙ front-run a
          in
          let third : d₃ ≡ sets d₂ p.start (record_of false 0 (prev a) w) =
          put.bytes ∙ ap (sets d₂ p.start) own_is
          in
          let u = h.start in
          let v = h.at in
          let stored : d₄ ≡ sets d₁ (records_at l (n + 1)) (after [] (names result)) =
          runs_stored d₁ (front a) (record_of false 0 (prev a) w) (after w (drop s.place (names (in_book_in l book))))
          (records_at l (n + 1)) p.start p.at (omega arith) (omega arith)
          (e₂ ∙ ap (λ k. sets d₁ k (part p.old s.at book)) h.new ∙ ap (sets d₁ (records_at l (n + 1))) run)
          third (e₄ ∙ ap (sets d₃ p.at) h.behind.bytes)
          ∙ ap (sets d₁ (records_at l (n + 1))) (sym (with-records a new score))
          in
          let whole : d₄ ≡ sets (sets d 7 (scores result)) (records_at l (length result)) (after [] (names result)) =
          stored
          ∙ ap (λ x. sets x (records_at l (n + 1)) (after [] (names result))) first
          ∙ ap (λ k. sets (sets d 7 (scores result)) (records_at l k) (after [] (names result))) (with-count a new score)
          in
          let t = with_total in
          e₅
          ∙ ap (λ k. finished l k (n + 1) d₄) with_total
          ∙ ap (λ k. finished l (length (image_in l result)) k d₄) (with-count a new score)
          ∙ ap (finished l (length (image_in l result)) (length result)) whole
          ∙ stored_whole l a.off result (with-valid a new score fits) d (omega arith)

  -- a name left out
  module _ (gone : Withdraws l book n w s) (h : PlannedWithout l book n s p) where
    abbrev left : List Entry
    left = without w (in_book_in l book)

    b : Sought l book n w s
    b = gone.sought

    pub without_total : p.total ≡ length (image_in l left)
    without_total =
        let c = without-count b gone in
        let i = image_off l b.off left ∙ ap (λ k. records_at l k + length (after [] (names left))) (sym c) in
        let r = ap length (without-records b gone) in
        let t = h.total in
        let f = front_long b in
        let x = length-append (front b) (after (prev b) (drop (suc s.place) (names (in_book_in l book)))) in
        omega arith

    pub without_most : p.total ≤ 55559
    without_most = let t = without_total in let m = book_length_lem l left (without-valid b gone) in omega arith

    pub without_stored :
        (d : List ℕ) → p.total ≤ length d → {d₁ d₂ d₃ d₄ : List ℕ}
        → d₁ ≡ sets d 7 (scores_without book n s.place) → d₂ ≡ sets d₁ p.new (part p.old s.at book)
        → d₃ ≡ sets d₂ p.at (behind_bytes book p.end p.behind) → d₄ ≡ finished l p.total (n - 1) d₃
        → d₄ ≡ overwrite d (image_in l left)
    without_stored d room {d₁} {d₂} {d₃} e₁ e₂ e₃ e₄ =
        let f = front_long b in
        let first : d₁ ≡ sets d 7 (scores left) = e₁ ∙ ap (sets d 7) (without-scores b gone) in
        let run : part p.old s.at book ≡ front b = ap (λ k. part k s.at book) h.old ∙ front-run b in
        let v = h.at in
        let stored : d₃ ≡ sets d₁ (records_at l (n - 1)) (after [] (names left)) =
        runs_stored d₁ (front b) [] (after (prev b) (drop (suc s.place) (names (in_book_in l book))))
        (records_at l (n - 1)) p.at
        p.at (omega arith) (omega arith)
        (e₂ ∙ ap (λ k. sets d₁ k (part p.old s.at book)) h.new ∙ ap (sets d₁ (records_at l (n - 1))) run)
        refl (e₃ ∙ ap (sets d₂ p.at) h.behind.bytes)
        ∙ ap (sets d₁ (records_at l (n - 1))) (sym (without-records b gone))
        in
        let whole : d₃ ≡ sets (sets d 7 (scores left)) (records_at l (length left)) (after [] (names left)) =
        stored
        ∙ ap (λ x. sets x (records_at l (n - 1)) (after [] (names left))) first
        ∙ ap (λ k. sets (sets d 7 (scores left)) (records_at l k) (after [] (names left))) (without-count b gone)
        in
        let t = without_total in
        e₄
        ∙ ap (λ k. finished l k (n - 1) d₃) without_total
        ∙ ap (λ k. finished l (length (image_in l left)) k d₃) (without-count b gone)
        ∙ ap (finished l (length (image_in l left)) (length left)) whole
        ∙ stored_whole l b.off left (without-valid b gone) d (omega arith)

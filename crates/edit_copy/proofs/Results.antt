-- The entries of an edit's result, and the bytes of the old image that its scores and records are made of.
use Prim.Native.Nat.{◌+◌, ◌-◌, ◌<◌, ◌≤◌, suc, ℕ}
use mathlib.Core.Path.{◌∙◌, ◌≡◌, ap, refl, subst, sym}
use mathlib.Core.Logic.{inl}
use mathlib.Core.Bool.{false, true}
use mathlib.Core.List.{List, [], ◌++◌, ◌∷◌, append_assoc}
use lib.Dec.{leb}
use lib.ListN.{drop, length, length-append, take, take-append-drop}
use lib.Seq.{drop-append_seam, drop-cons, drop-drop, length-take-le, split_at, take-append_seam}
use native.Mathlib.Numerals.{add-one}
use native.Mathlib.Omega.{arith}
use borrow.Author.Tests.{lt-leb}
use Rattle.octets.specs.Octets.{be, below}
use Rattle.octets.proofs.Lists.{all_in, at_all, concat-append, in_append_right, map-append, map-drop, map-take}
use Rattle.octets.proofs.Order.{begins_split}
use Rattle.octets.proofs.Tests.{and_true_both}
use Rattle.entries.specs.Entries.{Entry, at, entry, max_entries, name_below, names, no_entry, position, rising}
use Rattle.entries.specs.Entries.{valid, with, without}
use Rattle.entries.specs.Names.{is_name}
use Rattle.entries.proofs.Edits.{valid-with, valid-without}
use Rattle.entries.proofs.Span.{rising-at}
use Rattle.entries.proofs.Valid.{Valid, length-names, name_above, rising_head, rising_right, rising_tail, score_fits_lem}
use Rattle.entries.proofs.Valid.{valid_of}
use Rattle.entries_laws.specs.Place.{place}
use Rattle.entries_laws.proofs.Place.{place_most, place-position, position_at}
use Rattle.entries_laws.proofs.Splice.{with-absent, without-spliced}
use Rattle.book.specs.Records.{last_or, record_of, records}
use Rattle.book.specs.declared.Layout.{Layout}
use Rattle.book.specs.Book.{image_in, in_book_in, records_at, scores}
use Rattle.book.proofs.Reading.{image_records, length-scores}
use Rattle.book.proofs.Sections.{sections_of}
use Rattle.book.proofs.Splices.{image_off}
use Rattle.book_laws.specs.Ahead.{name_before}
use Rattle.book_laws.specs.Check.{score_start}
use Rattle.book_laws.proofs.Ahead.{names_at}
use Rattle.book_laws.proofs.Held.{held_stored, held-valid}
use Rattle.book_seek.specs.declared.Seek.{Seek}
use Rattle.book_seek.proofs.Found.{seeking_place}
use Rattle.edit_copy.specs.Asked.{Adds, Sought, Withdraws}
use Rattle.edit_copy.specs.Copies.{after, part, scores_with, scores_without}
use Rattle.edit_copy.proofs.Records.{after-append, after_next}
use Rattle.edit_copy.proofs.Runs.{last_run, some-run}

-- the last of names in front of another, in rising order
pub above_last :
    (p : List ℕ) (vs : List Entry) (e : Entry) (fs : List Entry) → below p e.name ≡ true
    → rising (vs ++ (e ∷ fs)) ≡ true → below (last_or p (names vs)) e.name ≡ true
above_last p [] e fs b r = b
above_last p (v ∷ vs) e fs b r =
    above_last v.name vs e fs
    (all_in (name_below v) e (vs ++ (e ∷ fs)) (rising_head v (vs ++ (e ∷ fs)) r)
    (in_append_right e vs (e ∷ fs) (inl refl)))
    (rising_tail v (vs ++ (e ∷ fs)) r)

-- scores in two runs
scores-append : (vs fs : List Entry) → scores (vs ++ fs) ≡ scores vs ++ scores fs
unfolding scores
scores-append vs fs = concat-append (λ (e : Entry). be 4 e.score) vs fs

module _ {l : Layout} {book : List ℕ} {n : ℕ} {w : List ℕ} {s : Seek} (a : Sought l book n w s) where
  abbrev es : List Entry
  es = in_book_in l book

  abbrev i : ℕ
  i = s.place

  abbrev pub prev : List ℕ
  prev = name_before es i

  abbrev pub front : List ℕ
  front = after [] (take i (names es))

  abbrev back : List ℕ
  back = after prev (drop i (names es))

  abbrev left : List ℕ
  left = drop (length (image_in l es)) book

  ok : Valid es
  ok = held-valid a.held

  -- the place
  pub place_is : s.place ≡ place false w es
  place_is = seeking_place es a.found

  pub place_within : s.place ≤ n
  place_within = let h = a.held.count in let m = place_most false w es in let p = place_is in omega arith

  -- the old records, in front of the place and behind it
  records_there : drop (records_at l n) book ≡ front ++ (back ++ left)
  records_there =
      ap (λ k. drop (records_at l k) book) a.held.count
      ∙ ap (drop (records_at l (length es))) (begins_split (image_in l es) book (held_stored a.held).front)
      ∙ image_records l es left
      ∙ ap (λ h. records h 0 [] (names es) ++ left) a.off
      ∙ ap (λ ws. after [] ws ++ left) (sym (take-append-drop i (names es)))
      ∙ ap (λ r. r ++ left) (after-append (take i (names es)) (drop i (names es)))
      ∙ append_assoc front back left

  pub front_low : records_at l n ≤ s.at
  front_low = let x = a.found.index in omega arith

  pub front_long : s.at - records_at l n ≡ length front
  front_long = let x = a.found.index in omega arith

  pub front-run : part (records_at l n) s.at book ≡ front
  front-run = rw (front_long, records_there) (take-append_seam front (back ++ left))

  pub back-stands : drop s.at book ≡ back ++ left
  back-stands =
      ap (λ k. drop k book) a.found.index
      ∙ sym (drop-drop (length front) (records_at l n) book)
      ∙ ap (drop (length front)) records_there
      ∙ drop-append_seam front (back ++ left)

  pub end_is : length (image_in l es) ≡ s.at + length back
  end_is =
      let x = a.found.index in
      let c = a.held.count in
      let r = ap length
      (ap (after []) (sym (take-append-drop i (names es))) ∙ after-append (take i (names es)) (drop i (names es))) in
      let k = length-append front back in
      let o = image_off l a.off es ∙ ap (λ m. records_at l m + length (after [] (names es))) (sym c) in
      omega arith

  -- the old scores
  scores_there : drop 7 book ≡ scores es ++ drop (length (scores es)) (drop 7 book)
  scores_there = begins_split (scores es) (drop 7 book)
      (sections_of l es book (held_stored a.held).front).has_scores

  -- in front of the place, and behind entries es begin with
  module _ (vs fs : List Entry) (e : es ≡ vs ++ fs) where
    stand : drop 7 book ≡ (scores vs ++ scores fs) ++ drop (length (scores es)) (drop 7 book)
    stand = scores_there ∙ ap (λ r. r ++ drop (length (scores es)) (drop 7 book)) (ap scores e ∙ scores-append vs fs)

    pub scores-front : part 7 (score_start (length vs)) book ≡ scores vs
    scores-front =
        let v = length-scores vs in
        let f = length-scores fs in
        let b = length-append (scores vs) (scores fs) in
        let z : score_start (length vs) ≡ 7 + length (scores vs) = omega arith in
        ap (λ k. part 7 k book) z
        ∙ some-run book 7 (scores vs ++ scores fs) (drop (length (scores es)) (drop 7 book)) stand 7 0
        (length (scores vs)) (omega arith) (omega arith)
        ∙ take-append_seam (scores vs) (scores fs)

    pub scores-back : part (score_start (length vs)) (score_start n) book ≡ scores fs
    scores-back =
        let v = length-scores vs in
        let f = length-scores fs in
        let b = length-append (scores vs) (scores fs) in
        let c = a.held.count ∙ ap length e ∙ length-append vs fs in
        let z : score_start n ≡ 7 + length (scores vs ++ scores fs) = omega arith in
        ap (λ k. part (score_start (length vs)) k book) z
        ∙ last_run book 7 (scores vs ++ scores fs) (drop (length (scores es)) (drop 7 book)) stand
        (score_start (length vs)) (length (scores vs)) (omega arith) (omega arith)
        ∙ drop-append_seam (scores vs) (scores fs)

  -- a new entry
  module _ (new : Adds l book n w s) (score : ℕ) where
    abbrev vs : List Entry
    vs = take i es

    abbrev fs : List Entry
    fs = drop i es

    vs_long : length vs ≡ i
    vs_long = let h = a.held.count in let p = place_within in length-take-le i es (omega arith)

    pub with_is : with (entry w score) es ≡ vs ++ (entry w score ∷ fs)
    with_is =
        let z : place false w es ≡ i = sym place_is in
        let y : i + 0 ≡ i = omega arith in
        with-absent w score es ok.order new.absent
        ∙ ap (λ k. take k es ++ (entry w score ∷ drop (k + 0) es)) z
        ∙ ap (λ k. take i es ++ (entry w score ∷ drop k es)) y

    pub with-valid : score < 4294967296 → valid (with (entry w score) es) ≡ true
    with-valid fits =
        let free : leb max_entries (length es) ≡ false =
        lt-leb max_entries (length es) (omega (arith, a.held.count, new.room))
        in
        valid-with (entry w score) es (held_stored a.held).ok new.allowed (score_fits_lem score fits)
        (rw (new.absent, free))

    pub with-count : n + 1 ≡ length (with (entry w score) es)
    with-count =
        let c = a.held.count ∙ ap length (sym (take-append-drop i es)) ∙ length-append vs fs in
        let b = ap length with_is ∙ length-append vs (entry w score ∷ fs) in
        omega arith

    pub with-scores : scores_with book n i score ≡ scores (with (entry w score) es)
    unfolding scores
    with-scores =
        let e = sym (take-append-drop i es) in
        let x : part 7 (score_start i) book ≡ scores vs = rw vs_long at (scores-front vs fs e) in
        let y : part (score_start i) (score_start n) book ≡ scores fs = rw vs_long at (scores-back vs fs e) in
        rw (x, y, with_is) (sym (scores-append vs (entry w score ∷ fs)))

    with-names : names (with (entry w score) es) ≡ take i (names es) ++ (w ∷ drop i (names es))
    with-names =
        ap names with_is
        ∙ map-append (λ (f : Entry). f.name) vs (entry w score ∷ fs)
        ∙ rw (map-take (λ (f : Entry). f.name) i es, map-drop (λ (f : Entry). f.name) i es)

    pub with-records :
        after [] (names (with (entry w score) es)) ≡ front ++ (record_of false 0 prev w ++ after w (drop i (names es)))
    with-records =
        ap (after []) with-names
        ∙ after-append (take i (names es)) (w ∷ drop i (names es))
        ∙ ap (λ r. front ++ r) (after_next prev w (drop i (names es)))

    -- the names rise
    with-rising : score < 4294967296 → rising (vs ++ (entry w score ∷ fs)) ≡ true
    with-rising fits = subst (λ (r : List Entry). rising r ≡ true) with_is
        (valid_of (with (entry w score) es) (with-valid fits)).order

    pub with_left : score < 4294967296 → below prev w ≡ true
    with_left fits =
        rw (map-take (λ (f : Entry). f.name) i es) at
        (above_last [] vs (entry w score) fs (name_above w new.allowed) (with-rising fits))

    pub with_right : score < 4294967296 → i < n → below w (at es i).name ≡ true
    with_right fits h =
        let c = a.held.count in
        let d : fs ≡ at es i ∷ drop (suc i) es = drop-cons es i no_entry (omega arith) in
        let r : rising (entry w score ∷ at es i ∷ drop (suc i) es) ≡ true =
        subst (λ (r : List Entry). rising (entry w score ∷ r) ≡ true) d
        (rising_right vs (entry w score ∷ fs) (with-rising fits))
        in
        (and_true_both _ _ r).0

  -- a name that is held
  module _ (gone : Withdraws l book n w s) where
    found_at : (position w es < length es) × ((at es (position w es)).name ≡ w)
    found_at = position_at w es gone.present

    pub held_place : s.place ≡ position w es
    held_place = place_is ∙ place-position w es ok.order gone.present

    pub held-inside : s.place < n
    held-inside = let h = held_place in let f = found_at.0 in let c = a.held.count in omega arith

    pub held_name : (at es i).name ≡ w
    held_name = rw held_place found_at.1

    abbrev vs' : List Entry
    vs' = take i es

    abbrev fs' : List Entry
    fs' = drop (suc i) es

    old_is : es ≡ vs' ++ (at es i ∷ fs')
    old_is = let h = held-inside in let c = a.held.count in split_at es i no_entry (omega arith)

    vs_long' : length vs' ≡ i
    vs_long' = let h = held-inside in let c = a.held.count in length-take-le i es (omega arith)

    pub without_is : without w es ≡ vs' ++ fs'
    without_is =
        without-spliced w es ok.order gone.present
        ∙ ap (λ k. take k es ++ drop (k + 1) es) (sym held_place)
        ∙ ap (λ k. take i es ++ drop k es) (add-one i)

    pub without-valid : valid (without w es) ≡ true
    without-valid = valid-without w es (held_stored a.held).ok

    pub without-count : n - 1 ≡ length (without w es)
    without-count =
        let c = a.held.count ∙ ap length old_is ∙ length-append vs' (at es i ∷ fs') in
        let b = ap length without_is ∙ length-append vs' fs' in
        omega arith

    pub without-scores : scores_without book n i ≡ scores (without w es)
    without-scores =
        let v = vs_long' in
        let e : es ≡ (vs' ++ (at es i ∷ [])) ++ fs' = old_is ∙ sym (append_assoc vs' (at es i ∷ []) fs') in
        let k : length (vs' ++ (at es i ∷ [])) ≡ i + 1 = length-append vs' (at es i ∷ []) ∙ omega arith in
        let x : part 7 (score_start i) book ≡ scores vs' = rw vs_long' at (scores-front vs' (at es i ∷ fs') old_is) in
        let y : part (score_start (i + 1)) (score_start n) book ≡ scores fs' = rw k at
        (scores-back (vs' ++ (at es i ∷ [])) fs' e) in
        rw (x, y, without_is) (sym (scores-append vs' fs'))

    without-names : names (without w es) ≡ take i (names es) ++ drop (suc i) (names es)
    without-names =
        ap names without_is
        ∙ map-append (λ (f : Entry). f.name) vs' fs'
        ∙ rw (map-take (λ (f : Entry). f.name) i es, map-drop (λ (f : Entry). f.name) (suc i) es)

    pub without-records : after [] (names (without w es)) ≡ front ++ after prev (drop (suc i) (names es))
    without-records = ap (after []) without-names ∙ after-append (take i (names es)) (drop (suc i) (names es))

    old_rising : rising (vs' ++ (at es i ∷ fs')) ≡ true
    old_rising = subst (λ (r : List Entry). rising r ≡ true) old_is ok.order

    -- the names from the place on
    pub held-names : drop i (names es) ≡ w ∷ drop (suc i) (names es)
    held-names =
        let h = held-inside in
        let c = a.held.count in
        let m = length-names es in
        drop-cons (names es) i [] (omega arith)
        ∙ ap (λ v. v ∷ drop (suc i) (names es)) (names_at es i (omega arith) ∙ held_name)

    pub without_left : below prev w ≡ true
    without_left =
        rw (map-take (λ (f : Entry). f.name) i es, held_name) at
        (above_last [] vs' (at es i) fs' (name_above (at es i).name (at_all (λ e. is_name e.name) no_entry es
        ok.allowed i (let h = held-inside in let c = a.held.count in omega arith))) old_rising)

    pub without_right : suc i < n → below w (at es (suc i)).name ≡ true
    without_right h =
        let c = a.held.count in
        rw held_name at (rising-at es ok.order i (suc i) (omega arith) (omega arith))

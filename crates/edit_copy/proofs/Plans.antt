-- The plan of an edit: what the code reads of the old image gives the records behind its place.
use Prim.Native.Nat.{◌+◌, ◌-◌, ◌<◌, ◌≤◌, suc, ℕ}
use mathlib.Core.Path.{◌∙◌, ◌≡◌, ap, refl, subst, sym}
use mathlib.Core.Bool.{false, true}
use mathlib.Core.List.{List, [], ◌++◌, ◌∷◌}
use lib.Dec.{leb, ltb}
use lib.ListN.{drop, drop_of_length-le, get_or, length}
use lib.Seq.{drop-cons}
use native.Mathlib.Omega.{arith}
use borrow.Author.Tests.{leb-false, leb-true, ltb-false, ltb-true}
use Rattle.octets.specs.Octets.{below, common, number_at}
use Rattle.octets.proofs.Coding.{common_le, common_most}
use Rattle.octets.proofs.Common.{common_swap}
use Rattle.octets.proofs.Lists.{at_all}
use Rattle.octets.proofs.Tests.{by_test}
use Rattle.entries.specs.Entries.{Entry, at, max_entries, names, no_entry}
use Rattle.entries.specs.Names.{is_name, longest_name}
use Rattle.entries.proofs.Valid.{length-names, name_length}
use Rattle.book.specs.declared.Layout.{Layout}
use Rattle.book.specs.Book.{image_in, in_book_in, records_at}
use Rattle.book.proofs.Splices.{record_long, records-at_off}
use Rattle.book_laws.specs.Ahead.{name_before}
use Rattle.book_laws.proofs.Ahead.{names_at}
use Rattle.book_laws.proofs.Held.{held_few, held_stored, held-valid}
use Rattle.book_seek.specs.declared.Seek.{Seek}
use Rattle.edit_copy.specs.Asked.{Adds, Sought, Withdraws}
use Rattle.edit_copy.specs.Copies.{Bytes, GoneRoom, NewRoom, PlanRoom, Planned, PlannedWith, PlannedWithout}
use Rattle.edit_copy.specs.Copies.{ScoreRoom, after, behind_gone, behind_new, nothing, plan_of}
use Rattle.edit_copy.proofs.Puts.{behind_long}
use Rattle.edit_copy.proofs.Records.{after_long, gone_behind, gone_next, header_inside, kept_read, new_behind}
use Rattle.edit_copy.proofs.Records.{new_order, new_within, own_read}
use Rattle.edit_copy.proofs.Results.{back-stands, end_is, front_low, held-inside, held_name, held-names}
use Rattle.edit_copy.proofs.Results.{with_left, with_right, without_left, without_right}
use Rattle.edit_copy.specs.declared.Behind.{Behind}
use Rattle.edit_copy.specs.declared.Plan.{Plan}
use Rattle.book.specs.Records.{record_of}

-- no record behind the place
nothing_bytes : (book : List ℕ) (end : ℕ) → end ≤ length book → Bytes book end [] (nothing end)
nothing_bytes book end h =
    let z : end - end ≡ 0 = omega arith in
    record { within = omega arith; order = omega arith; inside = h; bytes = rw z }

module _ {l : Layout} {book : List ℕ} {n : ℕ} {w : List ℕ} {s : Seek} (a : Sought l book n w s) where
  abbrev es : List Entry
  es = in_book_in l book

  abbrev i : ℕ
  i = s.place

  abbrev prev : List ℕ
  prev = name_before es i

  -- the old image
  pub image_inside : length (image_in l es) ≤ length book
  image_inside = (held_stored a.held).inside

  pub image_small : length (image_in l es) ≤ 55559
  image_small = (held_stored a.held).small

  pub end_read : {end : ℕ} → end ≡ number_at 4 book 1 → end ≡ length (image_in l es)
  end_read e = e ∙ (held_stored a.held).total

  pub at-inside : s.at ≤ length (image_in l es)
  at-inside = let e = end_is a in omega arith

  pub at_small : s.at ≤ 55559
  at_small = let x = at-inside in let y = image_small in omega arith

  pub records_small : (k : ℕ) → k ≤ max_entries → records_at l k ≤ 4231
  records_small k h = let e = records-at_off l a.off k in omega arith

  -- the scores lie in it
  pub scores-inside : (k : ℕ) → k ≤ n → ScoreRoom book n k
  scores-inside k h =
      let e = records-at_off l a.off n in
      let f = front_low a in
      let x = at-inside in
      let y = image_inside in
      record { few = held_few a.held; within = h; inside = omega arith }

  -- the runs behind the place lie in the old image
  runs-inside :
      {end : ℕ} {bs : List ℕ} {b : Behind} → end ≡ length (image_in l es) → Bytes book end bs b
      → (b.rest ≤ end) × (b.lent ≤ end) × (end ≤ 65536)
  runs-inside {end} {bs} {b} e h =
      let y = image_small in
      let w = h.within in
      (h.order, omega arith, omega arith)

  -- what the plan asks, and what it then is
  plan_room_of :
      (count : ℕ) {own end : ℕ} {bs : List ℕ} {b : Behind} → count ≤ max_entries → own ≤ 50
      → end ≡ length (image_in l es) → Bytes book end bs b → PlanRoom l n count s own b end
  plan_room_of count few short e h =
      let r = runs-inside e h in
      record {
        few = held_few a.held;
        count_few = few;
        order = front_low a;
        near = omega (arith, at_small, records_small count few);
        short = short;
        rest = r.0;
        lent = r.1;
        small = r.2;
      }

  planned_of :
      (count : ℕ) (own : List ℕ) {long end : ℕ} {bs : List ℕ} {b : Behind} {p : Plan} → long ≡ length own
      → end ≡ length (image_in l es) → Bytes book end bs b → p ≡ plan_of l n count s long b end
      → Planned l book n count s own bs p
  planned_of count own {long} {end} {bs} {b} el e h ep =
      let size = behind_long b book end h in
      let made : Planned l book n count s own bs (plan_of l n count s long b end) =
      record {
        old = refl;
        new = refl;
        start = refl;
        at = omega arith;
        behind = h;
        small = (runs-inside e h).2;
        total = omega arith;
      }
      in
      subst (Planned l book n count s own bs) (sym ep) made

  -- the names from a position on
  names_from_lem : (k : ℕ) → k < n → drop k (names es) ≡ (at es k).name ∷ drop (suc k) (names es)
  names_from_lem k h =
      let c = a.held.count in
      let m = length-names es in
      drop-cons (names es) k [] (omega arith)
      ∙ ap (λ v. v ∷ drop (suc k) (names es)) (names_at es k (omega arith))

  names-none : (k : ℕ) → n ≤ k → drop k (names es) ≡ []
  names-none k h = let c = a.held.count in let m = length-names es in
      drop_of_length-le (names es) {i = k} (omega arith)

  short_at : (k : ℕ) → k < n → length (at es k).name ≤ longest_name
  short_at k h = let c = a.held.count in
      name_length (at es k).name
      (at_all (λ e. is_name e.name) no_entry es (held-valid a.held).allowed k (omega arith))

  pub left_shared : s.below ≡ common prev w
  left_shared = a.found.left

  pub left_within : s.below ≤ length w
  left_within = let e = left_shared in let m = common_le prev w in omega arith

  -- the record at the place
  module _ (h : i < n) where
    abbrev q : List ℕ
    q = (at es i).name

    abbrev qs : List (List ℕ)
    qs = drop (suc i) (names es)

    right_shared : s.above ≡ common w q
    right_shared =
        let c = a.held.count in
        let m = length-names es in
        a.found.right (omega arith)
        ∙ ap (λ v. common v w) (names_at es i (omega arith))
        ∙ common_swap q w

    stands : drop s.at book ≡ after prev (q ∷ qs) ++ drop (length (image_in l es)) book
    stands = back-stands a ∙ ap (λ ws. after prev ws ++ drop (length (image_in l es)) book) (names_from_lem i h)

    ends : length (image_in l es) ≡ s.at + length (after prev (q ∷ qs))
    ends = end_is a ∙ ap (λ ws. s.at + length (after prev ws)) (names_from_lem i h)

  -- a new name
  module _ (new : Adds l book n w s) where
    pub new_short : length w ≤ longest_name
    new_short = name_length w new.allowed

    lower : below prev w ≡ true
    lower = with_left a new 0 (omega arith)

    upper : i < n → below w (at es i).name ≡ true
    upper h = with_right a new 0 (omega arith) h

    pub new_room : NewRoom book n s
    new_room =
        let x = at-inside in
        let y = image_small in
        record {
          near = omega arith;
          small = λ h.
              let e = right_shared h in
              let m = common_most w (at es i).name in
              let k = new_short in
              omega arith;
          inside = λ h. header_inside book s.at prev (q h) (qs h) _ (stands h);
          order = λ h.
              let e = right_shared h in
              let k = kept_read book s.at prev (q h) (qs h) _ (stands h) in
              let o = new_order book s.at prev w (q h) (qs h) _ (stands h) lower (upper h) in
              omega arith;
          enough = λ h.
              let e = right_shared h in
              let k = kept_read book s.at prev (q h) (qs h) _ (stands h) in
              let r = own_read book s.at prev (q h) (qs h) _ (stands h) in
              let o = new_within book s.at prev w (q h) (qs h) _ (stands h) lower (upper h) in
              omega arith;
        }

    pub new_bytes :
        (end : ℕ) → end ≡ length (image_in l es)
        → Bytes book end (after w (drop i (names es))) (behind_new book end n s)
    new_bytes end e =
        by_test (leb n s.place)
        (λ t.
        let h = leb-true n s.place t in
        let g = image_inside in
        rw (t, names-none i h) (nothing_bytes book end (omega arith)))
        (λ t.
        let h = leb-false n s.place t in
        let g = image_inside in
        let f = ends h in
        let x = right_shared h in
        let k = kept_read book s.at prev (q h) (qs h) _ (stands h) in
        let r = own_read book s.at prev (q h) (qs h) _ (stands h) in
        let o = new_within book s.at prev w (q h) (qs h) _ (stands h) lower (upper h) in
        let m = after_long prev (q h) (qs h) in
        rw t
        (record {
          within = omega arith;
          order = omega arith;
          inside = omega arith;
          bytes =
              new_behind book s.at prev w (q h) (qs h) _ (stands h) lower (upper h) s.above
              (get_or book s.at 0) (get_or book (s.at + 1) 0) end x k r (e ∙ f)
              ∙ ap (after w) (sym (names_from_lem i h));
        }))

    new_behind_bytes :
        {end : ℕ} {b : Behind} → end ≡ number_at 4 book 1 → b ≡ behind_new book end n s
        → Bytes book end (after w (drop i (names es))) b
    new_behind_bytes {end} e eb =
        subst (Bytes book end (after w (drop i (names es)))) (sym eb) (new_bytes end (end_read e))

    pub new_plan_room :
        {end : ℕ} {b : Behind} → end ≡ number_at 4 book 1 → b ≡ behind_new book end n s
        → PlanRoom l n (n + 1) s (2 + (length w - s.below)) b end
    new_plan_room e eb =
        plan_room_of (n + 1) (omega (arith, new.room)) (omega (arith, new_short)) (end_read e) (new_behind_bytes e eb)

    pub planned_with :
        {end : ℕ} {b : Behind} {p : Plan} → end ≡ number_at 4 book 1 → b ≡ behind_new book end n s
        → p ≡ plan_of l n (n + 1) s (2 + (length w - s.below)) b end → PlannedWith l book n w s p
    planned_with e eb ep =
        let r = record_long 0 prev w in
        let x = left_shared in
        let y = left_within in
        planned_of (n + 1) (record_of false 0 prev w) (omega arith) (end_read e) (new_behind_bytes e eb) ep

  -- a name that is held
  module _ (gone : Withdraws l book n w s) where
    here : i < n
    here = held-inside a gone

    abbrev rest : List (List ℕ)
    rest = drop (suc i) (names es)

    pub gone_short : length w ≤ longest_name
    gone_short = subst (λ (v : List ℕ). length v ≤ longest_name) (held_name a gone) (short_at i here)

    old_stands : drop s.at book ≡ after prev (w ∷ rest) ++ drop (length (image_in l es)) book
    old_stands = back-stands a
        ∙ ap (λ ws. after prev ws ++ drop (length (image_in l es)) book) (held-names a gone)

    old_ends : length (image_in l es) ≡ s.at + length (after prev (w ∷ rest))
    old_ends = end_is a ∙ ap (λ ws. s.at + length (after prev ws)) (held-names a gone)

    lower' : below prev w ≡ true
    lower' = without_left a gone

    -- none behind it
    last_ends : n ≤ suc i → length (image_in l es) ≡ s.at + 2 + (length w - s.below)
    last_ends h =
        let m = after_long prev w rest in
        let z = ap (λ ws. length (after w ws)) (names-none (suc i) h) in
        let e = old_ends in
        let x = left_shared in
        omega arith

    -- one behind it
    module _ (h : suc i < n) where
      abbrev q' : List ℕ
      q' = (at es (suc i)).name

      abbrev qs' : List (List ℕ)
      qs' = drop (suc (suc i)) (names es)

      upper' : below w q' ≡ true
      upper' = without_right a gone h

      two_stand : drop s.at book ≡ after prev (w ∷ q' ∷ qs') ++ drop (length (image_in l es)) book
      two_stand = old_stands
          ∙ ap (λ ws. after prev (w ∷ ws) ++ drop (length (image_in l es)) book) (names_from_lem (suc i) h)

      two_end : length (image_in l es) ≡ s.at + length (after prev (w ∷ q' ∷ qs'))
      two_end = old_ends ∙ ap (λ ws. s.at + length (after prev (w ∷ ws))) (names_from_lem (suc i) h)

      next_stands :
          drop (s.at + 2 + (length w - s.below)) book ≡ after w (q' ∷ qs') ++ drop (length (image_in l es)) book
      next_stands = ap (λ c. drop (s.at + 2 + (length w - c)) book) left_shared
          ∙ gone_next book s.at prev w q' qs' _ two_stand lower' upper'

      abbrev next : ℕ
      next = s.at + 2 + (length w - s.below)

      next_kept : get_or book next 0 ≡ common w q'
      next_kept = kept_read book next w q' qs' _ next_stands

      next_own : get_or book (next + 1) 0 ≡ length q' - common w q'
      next_own = own_read book next w q' qs' _ next_stands

      next_inside : next + 2 ≤ length book
      next_inside = header_inside book next w q' qs' _ next_stands

    some_behind : {end : ℕ} → end ≡ length (image_in l es) → s.at + 2 + (length w - s.below) < end → suc i < n
    some_behind {end} e h =
        by_test (ltb (suc i) n) (λ t. ltb-true (suc i) n t)
        (λ t. let z = last_ends (ltb-false (suc i) n t) in absurd (omega arith))

    pub gone_room :
        (end : ℕ) → end ≡ length (image_in l es) → GoneRoom book end s.at s.below (length w - s.below)
    gone_room end e =
        let x = at-inside in
        let y = image_small in
        let k = gone_short in
        let b = left_within in
        record {
          near = omega arith;
          short = omega arith;
          small = omega arith;
          inside = λ h. next_inside (some_behind e h);
          enough = λ h.
              let g = some_behind e h in
              let u = next_kept g in
              let v = next_own g in
              let m = common_le w (q' g) in
              let o = short_at (suc i) g in
              omega arith;
        }

    pub gone_bytes :
        (end : ℕ) → end ≡ length (image_in l es)
        → Bytes book end (after prev (drop (suc i) (names es)))
        (behind_gone book end s.at s.below (length w - s.below))
    gone_bytes end e =
        let b = left_within in
        let z = left_shared in
        by_test (leb end (s.at + 2 + (length w - s.below)))
        (λ t.
        let h = leb-true end (s.at + 2 + (length w - s.below)) t in
        let g = image_inside in
        let none : n ≤ suc i =
        by_test (ltb (suc i) n)
        (λ u.
        let v = ltb-true (suc i) n u in
        let f = two_end v in
        let m = after_long prev w (q' v ∷ qs' v) in
        let o = after_long w (q' v) (qs' v) in
        absurd (omega arith))
        (λ u. ltb-false (suc i) n u)
        in
        rw (t, names-none (suc i) none) (nothing_bytes book end (omega arith)))
        (λ t.
        let h = some_behind e (leb-false end (s.at + 2 + (length w - s.below)) t) in
        let g = image_inside in
        let f = two_end h in
        let u = next_kept h in
        let v = next_own h in
        let m = after_long prev w (q' h ∷ qs' h) in
        let o = after_long w (q' h) (qs' h) in
        let p = common_most w (q' h) in
        let y : length w - s.below ≡ length w - common prev w = ap (λ c. length w - c) z in
        rw t
        (record {
          within = omega arith;
          order = omega arith;
          inside = omega arith;
          bytes =
              gone_behind book s.at prev w (q' h) (qs' h) _ (two_stand h) lower' (upper' h) s.below
              (length w - s.below) (get_or book (next h) 0) (get_or book (next h + 1) 0) end z y u v (e ∙ f)
              ∙ ap (after prev) (sym (names_from_lem (suc i) h));
        }))

    gone_behind_bytes :
        {end : ℕ} {b : Behind} → end ≡ number_at 4 book 1
        → b ≡ behind_gone book end s.at s.below (length w - s.below)
        → Bytes book end (after prev (drop (suc i) (names es))) b
    gone_behind_bytes {end} e eb =
        subst (Bytes book end (after prev (drop (suc i) (names es)))) (sym eb) (gone_bytes end (end_read e))

    pub gone_plan_room :
        {end : ℕ} {b : Behind} → end ≡ number_at 4 book 1
        → b ≡ behind_gone book end s.at s.below (length w - s.below)
        → PlanRoom l n (n - 1) s 0 b end
    gone_plan_room e eb =
        plan_room_of (n - 1) (omega (arith, held_few a.held)) (omega arith) (end_read e) (gone_behind_bytes e eb)

    pub planned_without :
        {end : ℕ} {b : Behind} {p : Plan} → end ≡ number_at 4 book 1
        → b ≡ behind_gone book end s.at s.below (length w - s.below) → p ≡ plan_of l n (n - 1) s 0 b end
        → PlannedWithout l book n s p
    planned_without e eb ep = planned_of (n - 1) [] (omega arith) (end_read e) (gone_behind_bytes e eb) ep

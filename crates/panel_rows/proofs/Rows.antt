-- The rows of a panel: the positions that completion offers, and the row of a name among them.
use Prim.Native.Nat.{◌+◌, ◌-◌, ◌<◌, ◌≤◌, min, suc, zero, ℕ}
use mathlib.Core.Path.{◌∙◌, ◌≡◌, ap, refl, sym}
use mathlib.Core.Logic.{inl, inr}
use mathlib.Core.Bool.{◌&&◌, false, false≢true, true}
use mathlib.Core.List.{List, [], ◌∷◌, map}
use lib.Dec.{eqb, ltb}
use lib.ListN.{get_or, length, length-map, length-take, take}
use lib.Seq.{get_or-take, length-take-le}
use native.Mathlib.Omega.{arith}
use borrow.Author.Tests.{le-ltb, lt-ltb, ltb-false, ltb-true}
use Rattle.std.specs.Prelude.{None, Option, Some, cond}
use Rattle.std.specs.Option.{unwrap_or}
use Rattle.std.proofs.lemmas.List.Recursion.{is_position_or_len}
use Rattle.octets.specs.Lists.{◌∈◌, if◌then◌otherwise◌}
use Rattle.octets.specs.Octets.{same}
use Rattle.octets.proofs.Lists.{get_in, sort-length}
use Rattle.octets.proofs.Order.{same_eq}
use Rattle.octets.proofs.Tests.{and_true_both, by_test, suc_ltb}
use Rattle.entries.specs.Completion.{completion, matches, max_count}
use Rattle.entries.specs.Entries.{Entry, at, by_rank, holds, named, names, no_entry, outranks, position}
use Rattle.entries.specs.Entries.{rising}
use Rattle.entries.proofs.BestList.{in_holds}
use Rattle.entries.proofs.Valid.{no_entry_lem}
use Rattle.entries_laws.specs.Place.{place}
use Rattle.entries_laws.proofs.Place.{named-at, place-absent, place-held, place-matches}
use Rattle.book_seek.specs.Seek.{Seeking}
use Rattle.book_seek.specs.declared.Seek.{Seek}
use Rattle.book_seek.proofs.Found.{seeking_place, seeking_same}
use Rattle.completion.specs.declared.Range.{Range}
use Rattle.completion.specs.Machine.{machine, open_range}
use Rattle.completion.proofs.Machine.{machine-inside, machine_promise}
use Rattle.completion_turn.specs.declared.Progress.{Progress}
use Rattle.completion_turn.specs.Turns.{so_far}
use Rattle.completion_book.specs.Offers.{Offers, entries_at}
use Rattle.completion_book.proofs.Answering.{match_is, match_range}
use Rattle.panel.specs.Panel.{offered_for, panel_count, row_with}
use Rattle.panel_rows.specs.declared.Row.{Row}
use Rattle.panel_rows.specs.Rows.{OnRow, Rows, row_at, row_of}

-- a name that was sought: whether it is held, and its position
module _ {w : List ℕ} {start : ℕ} (es : List Entry) (r : rising es ≡ true) {s : Seek}
    (g : Seeking w start (names es) s) where
  pub sought_held : s.same ≡ true → (holds w es ≡ true) × (s.place ≡ position w es)
  sought_held t =
      let a = and_true_both (ltb s.place (length es)) (same (at es s.place).name w) (sym (seeking_same es g) ∙ t) in
      let e = seeking_place es g in
      let l = ltb-true s.place (length es) a.0 in
      let q = place-held w es r (omega (arith, e)) (rw (← e) (same_eq (at es s.place).name w a.1)) in
      (q.0, e ∙ sym q.1)

  pub sought_absent : s.same ≡ false → holds w es ≡ false
  sought_absent t =
      let e = seeking_place es g in
      let a : (ltb s.place (length es) && same (at es s.place).name w) ≡ false = sym (seeking_same es g) ∙ t in
      place-absent w es r (λ l. rw (← e) (rw (lt-ltb s.place (length es) (omega (arith, e))) at a))

-- what the machine offers are the rows
module _ (es : List Entry) (w : List ℕ) (r : rising es ≡ true) (s : Progress) (o : Offers es w panel_count s) where
  listed : entries_at es (so_far s) ≡ offered_for es w
  listed = rw o.offered (machine_promise es w panel_count r).completes

  pub rows_offered : Rows es w s
  rows_offered =
      let a = length-take-le s.count s.offered (omega (arith, o.few, o.places)) in
      let b = length-map (so_far s) (at es) in
      let l = ap length listed in
      record {
        sorted = r;
        inside = λ i m. machine-inside es w panel_count r i (rw o.offered at m);
        few = o.few;
        offered = listed;
        count = omega (arith, a, b, l);
      }

-- one of them
at_mapped : (es : List Entry) (is : List ℕ) (i : ℕ) → i < length is → at (map (at es) is) i ≡ at es (get_or is i 0)
at_mapped es [] i h = absurd (omega arith)
at_mapped es (j ∷ is) zero h = refl
at_mapped es (j ∷ is) (suc i) h = at_mapped es is i (omega arith)

module _ (es : List Entry) (w : List ℕ) (s : Progress) (a : Rows es w s) (long : length s.offered ≡ max_count)
    (i : ℕ) (on : i ≤ s.count - 1) where
  shown : 0 < s.count → i < length (so_far s)
  shown some = omega (arith, length-take-le s.count s.offered (omega (arith, a.few, long)))

  found : 0 < s.count → get_or (so_far s) i 0 ≡ get_or s.offered i 0
  found some = get_or-take s.count s.offered i 0 (omega arith)

  here : 0 < s.count → at es (get_or s.offered i 0) ≡ at (offered_for es w) i
  here some = rw (← found some, ← a.offered) (sym (at_mapped es (so_far s) i (shown some)))

  in_row : {j : ℕ} → i < s.count → Some (get_or s.offered i 0) ≡ Some j → j < length es
  in_row {j} l e =
      let z : get_or s.offered i 0 ≡ j = cc in
      let some : 0 < s.count = omega arith in
      rw (← z) (a.inside (get_or s.offered i 0) (rw (found some) at (get_in 0 (so_far s) i (shown some))))

  on_row_at : OnRow es w (row_at s i)
  on_row_at =
      record {
        rows = a.count;
        inside = λ j e. by_test (ltb i s.count) (λ t. in_row (ltb-true i s.count t) (rw t at e))
            (λ t. let z : ◌≡◌ {A = Option ℕ} None (Some j) = rw t at e in cc);
        name = by_test (ltb i s.count)
            (λ t. let some = ltb-true i s.count t in rw t (ap (λ e. e.name) (here (omega (arith, some)))))
            (λ t.
            let none = ltb-false i s.count t in
            rw t (sym (no_entry_lem (offered_for es w) i (omega (arith, none, on, a.count)))));
      }

  pub on_row_of : {r : Row} → r ≡ row_at s i → OnRow es w r
  on_row_of e = rw e on_row_at

-- all that match are offered, or five of them: they are counted by the text's two places
rows_counted : (es : List Entry) (w : List ℕ)
    → length (offered_for es w) ≡ min panel_count (place true w es - place false w es)
unfolding completion
rows_counted es w =
    let l = length-take panel_count (by_rank (matches w es)) in
    let m = sort-length outranks (matches w es) in
    omega (arith, l, m, place-matches w es)

-- the first row, from the text's two places
module _ (es : List Entry) (w : List ℕ) {first end : ℕ} (f : first ≡ place false w es) (e : end ≡ place true w es) where
  pub first_none : end ≤ first → OnRow es w (record { number = 0; rows = 0; position = None })
  first_none h =
      let none : length (offered_for es w) ≡ 0 = omega (arith, f, e, rows_counted es w) in
      record {
        rows = sym none;
        inside = λ i e. let z : ◌≡◌ {A = Option ℕ} None (Some i) = e in cc;
        name = sym (no_entry_lem (offered_for es w) 0 none);
      }

  module _ (ri : rising es ≡ true) (l : first < end) {r : Range} (o : open_range es first end ≡ r ∷ []) where
    -- the best of the range is offered first
    offers_best_lem : (machine es w 1).offered ≡ r.best ∷ []
    unfolding machine
    offers_best_lem =
        let m : match_range es w ≡ r ∷ [] = match_is es w ri ∙ rw (← f, ← e) o in rw m

    first_of : (l : List Entry) → at (take 1 l) 0 ≡ at (take panel_count l) 0
    first_of [] = refl
    first_of (x ∷ l) = refl

    best_first : at es r.best ≡ at (offered_for es w) 0
    unfolding completion
    best_first =
        ap (λ is. at (map (at es) is) 0) (sym offers_best_lem) ∙ ap (λ l. at l 0) (machine_promise es w 1 ri).completes
        ∙ first_of (by_rank (matches w es))

    pub first_some : {rows : ℕ} → rows ≡ min panel_count (end - first)
        → OnRow es w (record { number = 0; rows = rows; position = Some r.best })
    first_some {rows} n =
        record {
          rows = omega (arith, n, f, e, rows_counted es w);
          inside = λ i q. let z : r.best ≡ i = cc in
              rw (← z) (machine-inside es w 1 ri r.best (rw offers_best_lem (inl refl)));
          name = ap (λ x. x.name) best_first;
        }

-- the row of a position; the number of rows if it is in none of them
abbrev row_in : ℕ → List ℕ → ℕ
row_in i [] = 0
row_in i (j ∷ js) = if eqb j i then 0 otherwise suc (row_in i js)

row_in_is : (i : ℕ) (is : List ℕ) → row_of i is ≡ cond (ltb (row_in i is) (length is)) (Some (row_in i is)) None
row_in_is i is =
    ap (λ n. cond (ltb n (length is)) (Some n) None) (sym (is_position_or_len (row_in i) (λ j. eqb j i) refl step is))
  where
    step : (j : ℕ) (js : List ℕ) → row_in i (j ∷ js) ≡ cond (eqb j i) 0 (1 + row_in i js)
    step j js = by_test (eqb j i) (λ t. rw t refl) (λ t. rw t (omega arith))

row_is : (i : ℕ) (is : List ℕ) {row : ℕ} → row_of i is ≡ Some row → (row ≡ row_in i is) × (row < length is)
row_is i is {row} e =
    by_test (ltb (row_in i is) (length is))
    (λ t.
    let s : Some (row_in i is) ≡ Some row = rw t at (sym (row_in_is i is) ∙ e) in
    let q : row ≡ row_in i is = cc in
    (q, rw q (ltb-true (row_in i is) (length is) t)))
    (λ t. let s : ◌≡◌ {A = Option ℕ} None (Some row) = rw t at (sym (row_in_is i is) ∙ e) in cc)

no_row : (i : ℕ) (is : List ℕ) → row_of i is ≡ None → length is ≤ row_in i is
no_row i is e =
    by_test (ltb (row_in i is) (length is))
    (λ t. let s : Some (row_in i is) ≡ None = rw t at (sym (row_in_is i is) ∙ e) in cc)
    (λ t. ltb-false (row_in i is) (length is) t)

-- a name that the book holds is on the row of its position
module _ (w : List ℕ) (es : List Entry) (r : rising es ≡ true) (h : holds w es ≡ true) where
  on_row_lem : (is : List ℕ) → ((i : ℕ) → i ∈ is → i < length es)
      → (holds w (map (at es) is) ≡ ltb (row_in (position w es) is) (length is))
      × (position w (map (at es) is) ≡ row_in (position w es) is)
  on_row_lem [] m = (refl, refl)
  on_row_lem (j ∷ is) m =
      let e = named-at w es r h j (m j (inl refl)) in
      let ih = on_row_lem is (λ i l. m i (inr l)) in
      by_test (eqb j (position w es))
      (λ t. rw (e, t) (sym (lt-ltb 0 (suc (length is)) (omega arith)), refl))
      (λ t. rw (e, t) (ih.0 ∙ sym (suc_ltb (row_in (position w es) is) (length is)), ap suc ih.1))

-- one that it does not hold is on no row
off_rows : (w : List ℕ) (es : List Entry) → holds w es ≡ false → (is : List ℕ) → ((i : ℕ) → i ∈ is → i < length es)
    → holds w (map (at es) is) ≡ false
off_rows w es h [] m = refl
off_rows w es h (j ∷ is) m =
    by_test (named w (at es j))
    (λ t.
    let z = in_holds (at es j) es (get_in no_entry es j (m j (inl refl))) in
    absurd (false≢true (sym h ∙ (rw (same_eq (at es j).name w t) at z))))
    (λ t. rw t (off_rows w es h is (λ i l. m i (inr l))))

-- the row that has a name that was sought, among those offered for a text
module _ (held : List ℕ) (es : List Entry) (w : List ℕ) (other : ℕ) {s : Progress} (a : Rows es w s)
    {start : ℕ} {sought : Seek} (g : Seeking held start (names es) sought) where
  pub row_absent : sought.same ≡ false → other ≡ row_with held (offered_for es w) other
  row_absent t = rw (← a.offered) (rw (off_rows held es (sought_absent es a.sorted g t) (so_far s) a.inside))

  module _ (t : sought.same ≡ true) {o : Option ℕ} (looked : o ≡ row_of sought.place (so_far s)) where
    row : row_of (position held es) (so_far s) ≡ o
    row = sym (looked ∙ ap (λ i. row_of i (so_far s)) (sought_held es a.sorted g t).1)

    on : (holds held (map (at es) (so_far s)) ≡ ltb (row_in (position held es) (so_far s)) (length (so_far s)))
        × (position held (map (at es) (so_far s)) ≡ row_in (position held es) (so_far s))
    on = on_row_lem held es a.sorted (sought_held es a.sorted g t).0 (so_far s) a.inside

    row_found : {i : ℕ} → o ≡ Some i → i ≡ row_with held (offered_for es w) other
    row_found e =
        let here = row_is (position held es) (so_far s) (row ∙ e) in
        rw (← a.offered) (rw (on.0, ← here.0, lt-ltb _ (length (so_far s)) here.1) (here.0 ∙ sym on.1))

    row_none : o ≡ None → other ≡ row_with held (offered_for es w) other
    row_none e =
        let none = no_row (position held es) (so_far s) (row ∙ e) in
        rw (← a.offered) (rw (on.0, le-ltb (row_in (position held es) (so_far s)) (length (so_far s)) none))

    pub row_or : {i : ℕ} → i ≡ unwrap_or o other → i ≡ row_with held (offered_for es w) other
    row_or {i} e = go o refl
      where
        go : (q : Option ℕ) → o ≡ q → i ≡ row_with held (offered_for es w) other
        go None q = e ∙ rw q (row_none q)
        go (Some j) q = e ∙ rw q (row_found q)

-- A completion from its start to its answer.
use Prim.Native.Nat.{◌+◌, ◌<◌, ◌≤◌, ℕ}
use mathlib.Core.Path.{◌∙◌, ◌≡◌, ap, refl, subst, sym}
use mathlib.Core.Bool.{false, true}
use mathlib.Core.List.{List}
use lib.Dec.{eqb}
use lib.ListN.{length, length-map, length-take, replicate, take}
use lib.Seq.{length-take-le}
use native.Mathlib.Omega.{arith}
use borrow.Author.Tests.{eqb-false, eqb-true}
use Rattle.std.specs.Prelude.{Err, Result}
use Rattle.octets.proofs.Lists.{in_map}
use Rattle.octets.proofs.Tests.{by_test}
use Rattle.entries.specs.Completion.{completion, matches, max_count, range_start}
use Rattle.entries.specs.Entries.{Entry, at, by_rank, names, rising, valid}
use Rattle.entries.proofs.TopK.{top_k_lem}
use Rattle.entries.proofs.Valid.{valid_of}
use Rattle.entries_laws.specs.Place.{place}
use Rattle.entries_laws.proofs.Place.{place_first, place-matches, place_most}
use Rattle.answer.specs.Answers.{writing}
use Rattle.answer.specs.declared.Offered.{Offered}
use Rattle.answer.specs.declared.Refusal.{Refusal}
use Rattle.book.specs.Book.{in_book, records_at, today}
use Rattle.book_laws.specs.Ahead.{record_at}
use Rattle.book_held.proofs.Places.{entries_valid}
use Rattle.book_check.specs.Checked.{entries_in}
use Rattle.book_check.specs.declared.known.Checked.{Checked}
use Rattle.book_seek.specs.Seek.{Seeking}
use Rattle.book_seek.specs.declared.Seek.{Seek}
use Rattle.book_seek.proofs.Found.{seeking_past, seeking_place}
use Rattle.completion.specs.declared.Range.{Range}
use Rattle.completion.specs.Complete.{Completed, CompletedOver, complete_book, complete_from, offered_as}
use Rattle.completion.specs.Machine.{machine, open_range, run}
use Rattle.completion.proofs.Machine.{machine-inside, machine_promise, open_length, stop_fits}
use Rattle.completion_turn.specs.declared.Progress.{Progress}
use Rattle.completion_turn.specs.Turns.{Put, Ran, Runnable, so_far}
use Rattle.completion_turn.proofs.Ranges.{open_inside, open_none}
use Rattle.completion_book.specs.Offers.{Asked, AskedAs, MayWait, Offers, OffersAll, Sought, Writable, entries_at}
use Rattle.completion_book.specs.Offers.{outcome_of}

-- the matches lie between the prefix's two places
module _ (es : List Entry) (p : List ℕ) where
  -- the matching positions, if there are any, as the first open range
  abbrev pub match_range : List Range
  match_range = open_range es (range_start p es) (range_start p es + length (matches p es))

  pub match_is : rising es ≡ true → match_range ≡ open_range es (place false p es) (place true p es)
  unfolding range_start
  match_is r =
      let m = place-matches p es in
      by_test (eqb (length (matches p es)) 0)
      (λ t.
      let none = eqb-true (length (matches p es)) 0 t in
      open_none es (range_start p es) (range_start p es + length (matches p es)) (omega arith)
      ∙ sym (open_none es (place false p es) (place true p es) (omega arith)))
      (λ t.
      let some = eqb-false (length (matches p es)) 0 t in
      let f = place_first p es r (positive some) in
      rw (t, ← f, m))
    where
      positive : (length (matches p es) ≡ 0 → ⊥) → 0 < length (matches p es)
      positive f = omega arith

-- the places of a key that was sought
module _ (es : List Entry) {p : List ℕ} {s : Seek} (g : Seeking p (records_at today (length es)) (names es) s) where
  placed : s.place ≡ place false p es
  placed = seeking_place es g

  past : s.past ≡ place true p es
  past = seeking_past es g

  from : s.at ≡ record_at es (place false p es)
  from = g.index ∙ rw placed refl

  pub sought_most : s.past ≤ length es
  sought_most = omega (arith, past, place_most true p es)

-- the machine before its first turn, of k that may be offered, when the matches were put into the slots
abbrev pub start_of : Seek → ℕ → ℕ → Progress
start_of seek k filled =
    record {
      turns = k;
      filled = filled;
      offered = replicate max_count 0;
      count = 0;
      looks = filled;
      first = seek.place;
      from = seek.at;
    }

rises : (es : List Entry) → valid es ≡ true → rising es ≡ true
rises es ok = (valid_of es ok).order

module _ {es : List Entry} (ok : valid es ≡ true) {seek : Seek} {k : ℕ} {xs ys : List Range} {filled : ℕ}
    (waits : MayWait k (length xs)) (put : Put es seek.place seek.past xs 0 ys filled) where
  module _ {p : List ℕ} (g : Seeking p (records_at today (length es)) (names es) seek) where
    first_range : open_range es seek.place seek.past ≡ match_range es p
    first_range = rw (placed es g, past es g) (sym (match_is es p (rises es ok)))

    opened : take filled ys ≡ match_range es p
    opened = put.opened ∙ first_range

    looked : filled ≡ length (match_range es p)
    looked = let l = ap length first_range in omega (arith, put.filled)

    runs : Runnable es ys (start_of seek k filled)
    runs =
        let one = open_length es (range_start p es) (range_start p es + length (matches p es)) in
        record {
          entries = ok;
          ready = λ h. record {
            room = omega (arith, looked, one, waits.enough, put.size);
            few = omega (arith, waits.few);
            places = refl;
            seen = omega (arith, looked, one);
            inside = λ t m.
                open_inside es (range_start p es) (range_start p es + length (matches p es))
                (stop_fits es p (rises es ok)) t (rw opened at m);
          };
        }

    -- and when it has run, it offers what the machine of the definitions does
    offered_all : {s : Progress} → Ran es ys (start_of seek k filled) s → Offers es p k s
    unfolding machine
    offered_all {s} ran =
        record {
          offered = ran.offered ∙ ap (λ rs. (run k es rs).offered) opened;
          looks = ran.looks ∙ rw (opened, looked);
          few = ran.few (omega arith);
          places = ran.places;
          first = ran.first ∙ placed es g;
          from = ran.from ∙ from es g;
        }

  pub start_runs : Sought es seek → Runnable es ys (start_of seek k filled)
  start_runs q = runs q.located

  pub start_offers : {s : Progress} → Ran es ys (start_of seek k filled) s → OffersAll es seek k s
  start_offers ran p g = offered_all g ran

-- the answer of a machine that has run, where nothing was refused
module _ {book p : List ℕ} {k room lent : ℕ} {c : Checked} (a : Asked book p k room lent c) {es : List Entry}
    (same : es ≡ entries_in c) where
  held : es ≡ in_book book
  held = same ∙ a.known.entries

  located : Seeking p (records_at today (length es)) (names es) c.seek
  located = rw held a.known.located

  pub sought : Sought es c.seek
  sought = record { key = p; located = located }

  rises_in : rising (in_book book) ≡ true
  rises_in = (entries_valid {n = length (in_book book)} (record { is_it = a.known.is_it; count = refl }) refl).order

  module _ {s : Progress} (all : OffersAll es c.seek k s) where
    o : Offers (in_book book) p k s
    o = rw (← held) (all p located)

    -- the entries offered are the completion
    listed : entries_at (in_book book) (so_far s) ≡ completion (in_book book) p k
    listed = rw o.offered (machine_promise (in_book book) p k rises_in).completes

    at_most : length (completion (in_book book) p k) ≤ k
    unfolding completion
    at_most = rw (length-take k (by_rank (matches p (in_book book)))) (omega arith)

    counted : s.count ≤ k
    counted =
        let n = length-take-le s.count s.offered (omega (arith, o.few, o.places)) in
        let b = length-map (so_far s) (at (in_book book)) in
        let l = ap length listed in
        omega (arith, at_most)

    -- what is to be known before the answer is written
    pub writable : {dst : List ℕ} → room ≡ length dst → Writable es p dst s
    writable {dst} e =
        rw held
        (record {
          inside = λ i m. machine-inside (in_book book) p k rises_in i (rw o.offered at m);
          matching = λ i m.
              ((top_k_lem (in_book book) p k rises_in).among (at (in_book book) i)
              (rw listed at (in_map (at (in_book book)) i (so_far s) m))).1;
          first = o.first;
          from = rw o.first o.from;
          few = o.few;
          room = omega (arith, counted, a.fits, e);
        })

    -- the answer and the destination are those of completion
    pub completed :
        (dst : List ℕ) {dest : List ℕ} → room ≡ length dst → {r : Result Offered Refusal}
        → Completed (outcome_of es s dst) r dest → Completed (complete_book book p k dst lent) r dest
    unfolding complete_from writing
    completed dst {dest} e {r} d = subst (λ o. Completed o r dest) is d
      where
        is : outcome_of es s dst ≡ complete_book book p k dst lent
        is = rw (
          held,
          listed,
          o.looks,
          ← e,
          a.clear (offered_as (completion (in_book book) p k)
              (machine (in_book book) p k).looks),
        )

    pub completed_over :
        (dst : List ℕ) {dest : List ℕ} → room ≡ length dst → {r : Result Offered Refusal}
        → Completed (outcome_of es s dst) r dest → {xs ys : List Range} → length ys ≡ length xs
        → CompletedOver (complete_book book p k dst lent) r dest xs ys
    unfolding complete_from writing
    completed_over dst e d size = record {
      completed = completed dst e d;
      lent = rw (
        ← e,
        a.clear (offered_as (completion (in_book book) p k)
            (machine (in_book book) p k).looks),
      ) size;
    }

-- a refusal is completion's answer, and leaves the destination and the lent ranges
module _ (book p : List ℕ) (k : ℕ) (dst : List ℕ) where
  pub declines : (lent : ℕ) {r : Refusal} → AskedAs book p k (length dst) lent (Err r)
      → Completed (complete_book book p k dst lent) (Err r) dst
  unfolding complete_from writing
  declines lent h =
      let e = h (offered_as (completion (in_book book) p k) (machine (in_book book) p k).looks) in
      record { answer = rw e; left = rw e }

  pub declines_over : (xs : List Range) {r : Refusal} → AskedAs book p k (length dst) (length xs) (Err r)
      → CompletedOver (complete_book book p k dst (length xs)) (Err r) dst xs xs
  unfolding complete_from writing
  declines_over xs h =
      let e = h (offered_as (completion (in_book book) p k) (machine (in_book book) p k).looks) in
      record { completed = declines (length xs) h; lent = rw e }

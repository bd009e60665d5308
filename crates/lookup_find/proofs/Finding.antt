-- What lookups by name learn of a book that was checked.
use Prim.Native.Nat.{◌<◌, ◌≤◌, ℕ}
use mathlib.Core.Path.{◌∙◌, ◌≡◌, ap, refl, sym}
use mathlib.Core.Bool.{Bool, false, true}
use mathlib.Core.List.{List}
use mathlib.Core.Option as maybe
use Rattle.std.specs.Prelude.{None, Some}
use lib.Dec.{ltb}
use lib.ListN.{length}
use native.Mathlib.Omega.{arith}
use borrow.Author.Tests.{lt-ltb, ltb-true}
use Rattle.octets.specs.Lists.{if◌then◌otherwise◌}
use Rattle.octets.specs.Octets.{same}
use Rattle.octets.proofs.Order.{same_eq}
use Rattle.octets.proofs.Tests.{and_true_both, by_test}
use Rattle.entries.specs.Entries.{Entry, at, entry, holds, max_entries, names, position, rising}
use Rattle.entries_laws.specs.Place.{is_at, place}
use Rattle.entries_laws.proofs.Place.{place-absent, place-held, place_most, position_at}
use Rattle.entries.proofs.Same.{entry_eq}
use Rattle.answer.specs.Answers.{FoundCounts}
use Rattle.book.specs.Book.{in_book, is_book}
use Rattle.book_laws.specs.Check.{score_at}
use Rattle.book_laws.specs.Held.{Held}
use Rattle.lookup.specs.Lookups.{found_in}
use Rattle.book_laws.proofs.Held.{held_stored, held-valid}
use Rattle.book_seek.specs.Seek.{Seeking}
use Rattle.book_seek.specs.declared.Seek.{Seek}
use Rattle.book_seek.proofs.Found.{seeking_place, seeking_same}
use Rattle.answer.specs.Reports.{finding}
use Rattle.lookup_find.specs.Finding.{found_at}
use Rattle.answer.specs.declared.Found.{Found}

-- what the search for a name told of a book that was checked: the name's place, where it stands or where there
-- is a gap
module _
    (b w : List ℕ) {start : ℕ} {s : Seek} (ok : is_book b ≡ true) (k : Seeking w start (names (in_book b)) s)
  where
    held : Held b (length (in_book b))
    held = record { is_it = ok; count = refl }

    sorted : rising (in_book b) ≡ true
    sorted = (held-valid held).order

    pub place_low : s.place ≤ max_entries
    place_low = omega (arith, seeking_place (in_book b) k, place_most false w (in_book b), (held-valid held).few)

    abbrev i : ℕ
    i = place false w (in_book b)

    told : s.same ≡ is_at (in_book b) i w
    told = seeking_same (in_book b) k ∙ ap (λ j. is_at (in_book b) j w) (seeking_place (in_book b) k)

    pub gap_there : s.same ≡ false → holds w (in_book b) ≡ false
    gap_there t =
        let z : is_at (in_book b) i w ≡ false = sym told ∙ t in
        place-absent w (in_book b) sorted (λ m. rw (lt-ltb i (length (in_book b)) m) at z)

    pub held_there : s.same ≡ true → (holds w (in_book b) ≡ true) × (s.place ≡ position w (in_book b))
    held_there t =
        let a = and_true_both (ltb i (length (in_book b))) (same (at (in_book b) i).name w) (sym told ∙ t) in
        let q = place-held w (in_book b) sorted (ltb-true i (length (in_book b)) a.0)
        (same_eq (at (in_book b) i).name w a.1)
        in
        (q.0, seeking_place (in_book b) k ∙ sym q.1)

    -- es are its entries
    pub place_inside : {es : List Entry} → es ≡ in_book b → s.same ≡ true → s.place < length es
    place_inside v t =
        let f = held_there t in
        let m = (position_at w (in_book b) f.0).0 in
        rw (v, f.1) m

    -- so finding gives the place with its score, or none
    pub found_is : found_at b s ≡ found_in w (in_book b)
    unfolding found_in
    found_is = by_test s.same there (λ t. rw (t, gap_there t))
      where
        there : s.same ≡ true → found_at b s ≡ found_in w (in_book b)
        there t =
            let f = held_there t in
            let m = (position_at w (in_book b) f.0).0 in
            rw (t, f.0, f.1, (held_stored held).scored_at (position w (in_book b)) m)

-- what is found, by what the search told
module _ (b : List ℕ) (s : Seek) where
  abbrev when : Bool → maybe.Option FoundCounts
  when t = if t then maybe.some (record { position = s.place; score = score_at b s.place }) otherwise maybe.none

  pub found_gap : s.same ≡ false → finding None ≡ found_at b s
  found_gap t = ap when (sym t)

  pub found_there :
      {score : ℕ} → s.same ≡ true → score ≡ score_at b s.place
      → finding (Some (record { position = s.place; score = score })) ≡ found_at b s
  found_there t e = ap (λ x. maybe.some (record { position = s.place; score = x })) e ∙ ap when (sym t)

score_in : maybe.Option FoundCounts → ℕ
score_in maybe.none = 0
score_in (maybe.some p) = p.score

-- a name that is found is the entry at its position
pub found_entry :
    (w : List ℕ) (es : List Entry) {f : Found} → finding (Some f) ≡ found_in w es
    → (holds w es ≡ true) × (entry w f.score ≡ at es (position w es))
unfolding found_in score_in
found_entry w es {f} h =
    by_test (holds w es)
    (λ t. (t, here t (rw t at h)))
    (λ t. absurd (some_none (rw t at h)))
  where
    some_none : finding (Some f) ≡ maybe.none → ⊥
    some_none e = cc

    here : holds w es ≡ true
        → finding (Some f)
        ≡ maybe.some (record { position = position w es; score = (at es (position w es)).score })
        → entry w f.score ≡ at es (position w es)
    here t e =
        let q : f.score ≡ (at es (position w es)).score = ap score_in e in
        entry_eq (entry w f.score) (at es (position w es)) (sym (position_at w es t).1) q

-- and where none is found, it is absent
pub found_not : (w : List ℕ) (es : List Entry) → finding None ≡ found_in w es → holds w es ≡ false
unfolding found_in
found_not w es h = by_test (holds w es) (λ t. absurd (none_some (rw t at h))) (λ t. t)
  where
    none_some : {p : FoundCounts} → finding None ≡ maybe.some p → ⊥
    none_some e = cc

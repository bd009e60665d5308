-- Finding and prefix ranges by the place of a key.
use Prim.Native.Nat.{◌-◌, ◌<◌, ◌≤◌, ℕ}
use mathlib.Core.Path.{◌≡◌, refl, sym}
use mathlib.Core.Logic.{inl, inr}
use mathlib.Core.Bool.{false, false≢true, not, true}
use mathlib.Core.List.{List, [], ◌++◌, ◌∷◌}
use lib.Dec.{eqb, ltb}
use lib.ListN.{length}
use native.Mathlib.Omega.{arith}
use borrow.Author.Tests.{eq-eqb, eqb-true, ltb-true, ne_eqb, not-false}
use Rattle.octets.specs.Lists.{◌∈◌}
use Rattle.octets.proofs.Lists.{at_all}
use Rattle.octets.proofs.Tests.{and_true_both, or_false}
use Rattle.entries.specs.Completion.{matches, range_start}
use Rattle.entries.specs.Entries.{Entry, at, no_entry, rising}
use Rattle.entries.specs.Names.{is_name}
use Rattle.entries_laws.specs.Place.{place}
use Rattle.entries_laws.proofs.Place.{place_first, place-matches}
use Rattle.entries.proofs.Valid.{name_above, valid_of}
use Rattle.answer.specs.Answers.{Check, ◌when◌}
use Rattle.book.specs.Book.{in_book, is_book}
use Rattle.book.specs.Checks.{book_checks}
use Rattle.lookup.specs.Lookups.{HeadPart, has_head, head_length, head_name}
use Rattle.answer.proofs.Answers.{clear, given_is}
use Rattle.book.proofs.Reading.{valid_in}

-- the matches of a prefix lie between its two places
pub range_some :
    (p : List ℕ) (es : List Entry) → rising es ≡ true → place false p es < place true p es
    → (range_start p es ≡ place false p es) × (length (matches p es) ≡ place true p es - place false p es)
unfolding range_start
range_some p es r l =
    let m = place-matches p es in
    let pos : 0 < length (matches p es) = omega arith in
    (rw (ne_eqb (length (matches p es)) 0 (λ z. omega arith)) (sym (place_first p es r pos)), omega arith)

pub range_none :
    (p : List ℕ) (es : List Entry) → place true p es ≤ place false p es → (range_start p es ≡ 0)
    × (length (matches p es) ≡ 0)
unfolding range_start
range_none p es l =
    let m = place-matches p es in
    let z : length (matches p es) ≡ 0 = omega arith in
    (rw (eq-eqb (length (matches p es)) 0 z), z)

-- the head part and its companion
pub head_part_lem : (book : List ℕ) (j : ℕ) → HeadPart book j
unfolding head_name head_length
head_part_lem book j = record {
  empty = λ n h. rw h;
  first = λ k h. (bucket_0 (clear checks len k h), rw h);
  whole = λ k h. (rw h (given_is checks len k h), (λ e. some_name (clear checks len k h) (rw h at e)));
}
  where
    len : ℕ
    len = length (at (in_book book) 0).name

    checks : List Check
    checks = book_checks (book ∷ []) ++ (6 when not (has_head (in_book book) j) ∷ [])

    bucket_0 : ((c : Check) → c ∈ checks → c.applies ≡ false) → j ≡ 0
    bucket_0 ok =
        let h = not-false (has_head (in_book book) j) (ok _ (inr (inr (inl refl)))) in
        eqb-true j 0 (and_true_both (eqb j 0) (ltb 0 (length (in_book book))) h).0

    some_name : ((c : Check) → c ∈ checks → c.applies ≡ false) → (at (in_book book) 0).name ≡ [] → ⊥
    some_name ok e =
        let b = not-false (is_book book) (or_false (not (is_book book)) false (ok _ (inr (inl refl)))).0 in
        let h = not-false (has_head (in_book book) j) (ok _ (inr (inr (inl refl)))) in
        let l = ltb-true 0 (length (in_book book)) (and_true_both (eqb j 0) (ltb 0 (length (in_book book))) h).1 in
        let v = valid_of (in_book book) (valid_in book b) in
        let n = at_all (λ f. is_name f.name) no_entry (in_book book) v.allowed 0 l in
        let m : is_name [] ≡ true = rw e at n in
        false≢true (name_above [] m)

-- Another score at one position: the entries are as many, their names and records the same, and so is the peak
-- of every other block.
use Prim.Native.Nat.{◌*◌, ◌+◌, ◌-◌, ◌/◌, ◌<◌, ◌^◌, ◌≤◌, ℕ}
use mathlib.Core.Path.{◌∙◌, ◌≡◌, ap, refl, sym}
use mathlib.Core.Logic.{◌≢◌, ◌⊎◌, inl, inr}
use mathlib.Core.Bool.{true}
use mathlib.Core.List.{List, ◌++◌, ◌∷◌}
use lib.Dec.{eqb, ltb}
use lib.ListN.{drop, length, length-set, set, take}
use lib.Seq.{drop-set-add, drop-set-lt, get_or-set_other, get_or-set_same, map-set_same, set_split, take-set-le}
use native.Mathlib.Numerals.{add-one}
use native.Mathlib.Omega.{arith}
use borrow.Author.Tests.{eqb-false, eqb-true, lt-ltb, ltb-false, ltb-true}
use Rattle.octets.proofs.Lists.{all-at, at_all}
use Rattle.octets.proofs.Tests.{and_intro, by_test}
use Rattle.entries.specs.Entries.{Entry, at, best, entry, holds, is_entry, names, no_entry, position, rising, valid, with}
use Rattle.entries.specs.Names.{is_name, is_score}
use Rattle.entries_laws.proofs.Place.{position_at}
use Rattle.entries_laws.proofs.Splice.{with-held}
use Rattle.entries.proofs.Valid.{rising-names, valid-all, valid_intro, valid_of}
use Rattle.book.specs.Book.{block_size, book_image, offsets, peak, today}
use Rattle.book.proofs.Reading.{image_length}
use Rattle.edit_rescore.specs.Rescored.{rescored}

-- what lies in front of an element that is set, or behind it
set-part :
    (es : List Entry) (i : ℕ) (e : Entry) (a m : ℕ) → (i < a) ⊎ (a + m ≤ i)
    → take m (drop a (set es i e)) ≡ take m (drop a es)
set-part es i e a m (inl l) = rw (drop-set-lt a es i e l)
set-part es i e a m (inr l) =
    let z : a + (i - a) ≡ i = omega arith in
    ap (λ k. take m (drop a (set es k e))) (sym z)
    ∙ rw (drop-set-add a es (i - a) e) (take-set-le m (drop a es) (i - a) e (omega arith))

module _ (es : List Entry) (i s : ℕ) where
  abbrev new : Entry
  new = entry (at es i).name s

  pub rescored-length : length (rescored es i s) ≡ length es
  rescored-length = length-set es i new

  pub rescored-names : names (rescored es i s) ≡ names es
  rescored-names = map-set_same (λ (e : Entry). e.name) es i new no_entry refl

  pub rescored-offsets : offsets today (rescored es i s) ≡ offsets today es
  unfolding offsets
  rescored-offsets = refl

  pub rescored_image : length (book_image (rescored es i s)) ≡ length (book_image es)
  rescored_image = rw (
    image_length today (rescored es i s),
    image_length today es,
    rescored-length,
    rescored-names,
  )

  pub rescored-peak : (j : ℕ) → j ≢ i / block_size → peak (rescored es i s) j ≡ peak es j
  unfolding peak
  rescored-peak j ne =
      ap (λ l. block_size * j + best l)
      (set-part es i new (block_size * j) block_size
      (by_test (ltb i (block_size * j)) (λ t. inl (ltb-true i (block_size * j) t))
      (λ t. let q = ltb-false i (block_size * j) t in inr (omega arith))))

  module _ (h : i < length es) where
    pub rescored_there : at (rescored es i s) i ≡ new
    rescored_there = get_or-set_same es i new no_entry h

    pub rescored-valid : valid es ≡ true → s < 4294967296 → valid (rescored es i s) ≡ true
    unfolding is_score
    rescored-valid ok l =
        let v = valid_of es ok in
        let few = v.few in
        let n = rescored-length in
        valid_intro (rescored es i s) (omega arith)
        (all-at is_entry no_entry (rescored es i s)
        (λ k m.
        by_test (eqb k i)
        (λ t.
        let q = eqb-true k i t in
        rw (q, rescored_there)
        (and_intro (is_name (at es i).name) (is_score s) (at_all (λ e. is_name e.name) no_entry es v.allowed i h)
        (lt-ltb s (2 ^ 32) l)))
        (λ t. let q = eqb-false k i t in
        rw (get_or-set_other es i k new no_entry q) (at_all is_entry no_entry es (valid-all es ok) k (omega arith)))))
        (rising-names (rescored es i s) es rescored-names ∙ v.order)

-- a set of a name that is held
pub rescored-with :
    (w : List ℕ) (s : ℕ) (es : List Entry) → rising es ≡ true → holds w es ≡ true
    → rescored es (position w es) s ≡ with (entry w s) es
rescored-with w s es r h =
    let p = position_at w es h in
    rw p.1
    (set_split es (position w es) (entry w s) p.0
    ∙ ap (λ k. take (position w es) es ++ (entry w s ∷ drop k es)) (sym (add-one (position w es)))
    ∙ sym (with-held w s es r h))

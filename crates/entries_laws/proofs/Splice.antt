-- Set and withdraw are splices at the place of the name.
use Prim.Native.Nat.{◌+◌, suc, ℕ}
use mathlib.Core.Path.{◌∙◌, ◌≡◌, ap, refl, subst, sym}
use mathlib.Core.Bool.{false, false≢true, not, true}
use mathlib.Core.List.{List, [], ◌∷◌}
use lib.ListN.{drop, length, take}
use lib.Seq.{drop_at, length-take-le, take_at}
use native.Mathlib.Omega.{arith}
use Rattle.octets.specs.Lists.{all, insert_by}
use Rattle.octets.specs.Octets.{below}
use Rattle.octets.proofs.Order.{below_irrefl, same_eq}
use Rattle.octets.proofs.Tests.{and_true_both, by_test}
use Rattle.entries.specs.Entries.{Entry, at, entry, holds, name_below, named, position, rising, with, without}
use Rattle.entries_laws.specs.Place.{place}
use Rattle.entries_laws.specs.Splice.{spliced}
use Rattle.entries_laws.proofs.Place.{place-position, place_unique, position_at}
use Rattle.entries.proofs.Valid.{rising_head, rising-keep, rising_tail}

-- a name that is not held: nothing to leave out
without-absent : (w : List ℕ) (es : List Entry) → holds w es ≡ false → without w es ≡ es
without-absent w [] h = refl
without-absent w (e ∷ es) h =
    by_test (named w e)
    (λ t. absurd (false≢true (sym h ∙ (rw t))))
    (λ t. rw t (ap (λ l. e ∷ l) (without-absent w es (rw t at h))))

-- names above another one are not it
above-absent : (w : List ℕ) (es : List Entry) → all (λ f. below w f.name) es ≡ true → holds w es ≡ false
above-absent w [] h = refl
above-absent w (f ∷ es) h =
    let a = and_true_both (below w f.name) (all (λ g. below w g.name) es) h in
    by_test (named w f)
    (λ t. let q = same_eq f.name w t in absurd (false≢true (sym (below_irrefl w) ∙ (rw q at a.0))))
    (λ t. rw t (above-absent w es a.1))

-- a name that is held: the entry at its position is left out
pub without-spliced : (w : List ℕ) (es : List Entry) → rising es ≡ true → holds w es ≡ true
    → without w es ≡ spliced (position w es) 1 [] es
without-spliced w [] r h = absurd (false≢true h)
without-spliced w (e ∷ es) r h =
    by_test (named w e)
    (λ t.
    let q = same_eq e.name w t in
    let a : all (λ f. below w f.name) es ≡ true = subst (λ (v : List ℕ). all (λ f. below v f.name) es ≡ true) q
    (rising_head e es r) in
    rw t (without-absent w es (above-absent w es a)))
    (λ t.
    let z : suc (position w es) + 1 ≡ suc (position w es + 1) = omega arith in
    rw (t, z) (ap (λ l. e ∷ l) (without-spliced w es (rising_tail e es r) (rw t at h))))

-- inserted at the place of its name
none_before : (w : List ℕ) (e : Entry) (es : List Entry) → rising (e ∷ es) ≡ true → below e.name w ≡ false
    → place false w (e ∷ es) ≡ 0
none_before w e es r b = place_unique false w (e ∷ es) r 0 (omega arith) (λ l. absurd (omega arith)) (λ l. rw b)

some-before : (w : List ℕ) (e : Entry) (es : List Entry) → below e.name w ≡ true
    → place false w (e ∷ es) ≡ suc (place false w es)
unfolding place
some-before w e es b = rw b

insert-spliced : (e : Entry) (es : List Entry) → rising es ≡ true
    → insert_by name_below e es ≡ spliced (place false e.name es) 0 (e ∷ []) es
unfolding place
insert-spliced e [] r = refl
insert-spliced e (f ∷ es) r =
    by_test (name_below f e)
    (λ t.
    let q = place false e.name es in
    let z : suc (place false e.name es) + 0 ≡ suc (place false e.name es + 0) = omega arith in
    subst (λ (k : ℕ). insert_by name_below e (f ∷ es) ≡ spliced k 0 (e ∷ []) (f
    ∷ es)) (sym (some-before e.name f es t))
    (rw (t, z) (ap (λ l. f ∷ l) (insert-spliced e es (rising_tail f es r)))))
    (λ t.
    subst (λ (k : ℕ). insert_by name_below e (f ∷ es) ≡ spliced k 0 (e ∷ []) (f
    ∷ es)) (sym (none_before e.name f es r t)) (rw t))

-- the place of a name does not see the name itself
place-without : (w : List ℕ) (es : List Entry) → place false w (without w es) ≡ place false w es
unfolding place
place-without w [] = refl
place-without w (e ∷ es) =
    by_test (named w e)
    (λ t. let q = same_eq e.name w t in let n : below e.name w ≡ false = rw q (below_irrefl w) in
    rw (t, n) (place-without w es))
    (λ t. by_test (below e.name w) (λ u. rw (t, u) (ap suc (place-without w es)))
    (λ u. rw (t, u) (place-without w es)))

-- set: with a new entry, or the old one replaced
pub with-absent :
    (w : List ℕ) (s : ℕ) (es : List Entry) → rising es ≡ true → holds w es ≡ false
    → with (entry w s) es ≡ spliced (place false w es) 0 (entry w s ∷ []) es
with-absent w s es r h = rw (without-absent w es h) (insert-spliced (entry w s) es r)

pub with-held :
    (w : List ℕ) (s : ℕ) (es : List Entry) → rising es ≡ true → holds w es ≡ true
    → with (entry w s) es ≡ spliced (position w es) 1 (entry w s ∷ []) es
with-held w s es r h =
    let p = position_at w es h in
    let l = p.0 in
    let i = position w es in
    let q : place false w (without w es) ≡ position w es = place-without w es ∙ place-position w es r h in
    let k : length (take (position w es) es) ≡ position w es = length-take-le (position w es) es (omega arith) in
    let rest = drop (position w es + 1) es in
    let z : position w es + 0 ≡ position w es = omega arith in
    insert-spliced (entry w s) (without w es) (rising-keep (λ e. not (named w e)) es r)
    ∙ rw (
      q,
      without-spliced w es r h,
      z,
      take_at (take (position w es) es) (drop (position w es + 1) es) (position w es) k,
      drop_at (take (position w es) es) (drop (position w es + 1) es) (position w es) k,
    )

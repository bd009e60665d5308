-- The place of a key: unique by its neighbours, the position of a name that is held, and the ends of a prefix range.
use Prim.Native.Nat.{◌+◌, ◌-◌, ◌<◌, ◌≤◌, suc, zero, ℕ}
use mathlib.Core.Path.{◌∙◌, ◌≡◌, refl, sym}
use mathlib.Core.Bool.{Bool, false, false≢true, true}
use mathlib.Core.List.{List, [], ◌∷◌}
use lib.Dec.{eqb, ltb}
use lib.ListN.{length}
use native.Mathlib.Omega.{arith}
use borrow.Author.Tests.{eq-eqb, eqb-true, ltb-false, ltb-true, ne_eqb}
use Rattle.octets.specs.Octets.{begins, below, same}
use Rattle.octets.proofs.Lists.{get_in, keep_first, keep-length}
use Rattle.octets.proofs.Order.{begins-between, begins_self, below_irrefl, below_total, below_trans, same_eq, same_refl}
use Rattle.octets.proofs.Tests.{and_true_both, by_test}
use Rattle.entries.specs.Completion.{begun, first_match, matches}
use Rattle.entries.specs.Entries.{Entry, at, holds, name_below, named, no_entry, position, rising}
use Rattle.entries_laws.specs.Place.{is_before, place}
use Rattle.entries.proofs.BestList.{in_holds}
use Rattle.entries.proofs.Matches.{first_fits}
use Rattle.entries.proofs.Span.{position-same, rising-at}

-- what is not below the key but below a name that the key begins is begun by it too
before-begun : (p v w : List ℕ) → below v w ≡ true → begins p w ≡ true → below v p ≡ false → begins p v ≡ true
before-begun p v w h b n =
    by_test (below p v)
    (λ t. begins-between p p v w (begins_self p) b t h)
    (λ t. let q = below_total p v t n in rw q (begins_self v))

-- an entry below one that is before the key is before it
before_lower : (past : Bool) (key : List ℕ) (e f : Entry) → name_below e f ≡ true → is_before past key f ≡ true
    → is_before past key e ≡ true
before_lower past key e f h b =
    by_test (below e.name key)
    (λ t. rw t)
    (λ t.
    by_test (below f.name key)
    (λ u. absurd (false≢true (sym t ∙ below_trans e.name f.name key h u)))
    (λ u.
    let c = and_true_both past (begins key f.name) (rw u at b) in
    rw (t, c.0) (before-begun key e.name f.name h c.1 t)))

-- the place is known by the entries on both sides of it
module _ (past : Bool) (key : List ℕ) (es : List Entry) (r : rising es ≡ true) where
  pub place_unique :
      (i : ℕ) → i ≤ length es → (0 < i → is_before past key (at es (i - 1)) ≡ true)
      → (i < length es → is_before past key (at es i) ≡ false) → place past key es ≡ i
  unfolding place
  place_unique i h left right = keep_first (is_before past key) no_entry es i h first rest
    where
      first : (k : ℕ) → k < i → is_before past key (at es k) ≡ true
      first k l =
          by_test (ltb k (i - 1))
          (λ t. before_lower past key (at es k) (at es (i - 1))
          (rising-at es r k (i - 1) (ltb-true k (i - 1) t) (omega arith)) (left (omega arith)))
          (λ t. let z = ltb-false k (i - 1) t in let q : k ≡ i - 1 = omega arith in rw q (left (omega arith)))

      rest : (k : ℕ) → i ≤ k → k < length es → is_before past key (at es k) ≡ false
      rest k l m =
          by_test (is_before past key (at es k))
          (λ t.
          by_test (ltb i k)
          (λ u.
          absurd
          (false≢true
          (sym (right (omega arith)) ∙ before_lower past key (at es i) (at es k)
          (rising-at es r i k (ltb-true i k u) m) t)))
          (λ u. let z = ltb-false i k u in let q : k ≡ i = omega arith in
          absurd (false≢true (sym (right (omega arith)) ∙ (rw q at t)))))
          (λ t. t)

pub place_most : (past : Bool) (key : List ℕ) (es : List Entry) → place past key es ≤ length es
unfolding place
place_most past key es = keep-length (is_before past key) es

-- a name that is held is at its place
pub position_at : (w : List ℕ) (es : List Entry) → holds w es ≡ true → (position w es < length es)
    × ((at es (position w es)).name ≡ w)
position_at w [] h = absurd (false≢true h)
position_at w (e ∷ es) h =
    by_test (named w e)
    (λ t. rw t (omega arith, same_eq e.name w t))
    (λ t. let ih = position_at w es (rw t at h) in rw t (omega arith, ih.1))

pub place-position : (w : List ℕ) (es : List Entry) → rising es ≡ true → holds w es ≡ true
    → place false w es ≡ position w es
place-position w es r h =
    let p = position_at w es h in
    let l = p.0 in
    place_unique false w es r (position w es) (omega arith)
    (λ z. rw (rw p.1 at (rising-at es r (position w es - 1) (position w es) (omega arith) p.0)))
    (λ z. rw (p.1, below_irrefl w))

-- an entry at the place with another name, or none there: the name is not held
pub place-absent :
    (w : List ℕ) (es : List Entry) → rising es ≡ true
    → (place false w es < length es → same (at es (place false w es)).name w ≡ false)
    → holds w es ≡ false
place-absent w es r n =
    by_test (holds w es)
    (λ t.
    let p = position_at w es t in
    let q = place-position w es r t in
    let e : same (at es (place false w es)).name w ≡ true = rw (q, p.1) (same_refl w) in
    absurd (false≢true (sym (n (rw q p.0)) ∙ e)))
    (λ t. t)

pub place-held :
    (w : List ℕ) (es : List Entry) → rising es ≡ true → place false w es < length es
    → (at es (place false w es)).name ≡ w
    → (holds w es ≡ true) × (position w es ≡ place false w es)
place-held w es r l e =
    let h : holds w es ≡ true = rw e at
    (in_holds (at es (place false w es)) es (get_in no_entry es (place false w es) l)) in
    (h, sym (place-position w es r h))

-- the entry at a position has a name that is held exactly if it is the name's position
pub named-at : (w : List ℕ) (es : List Entry) → rising es ≡ true → holds w es ≡ true → (j : ℕ) → j < length es
    → named w (at es j) ≡ eqb j (position w es)
named-at w es r h j l =
    let p = position_at w es h in
    by_test (named w (at es j))
    (λ t.
    let e = position-same es r j (position w es) l p.0 (same_eq (at es j).name w t ∙ sym p.1) in
    t ∙ sym (eq-eqb j (position w es) e))
    (λ t.
    t
    ∙ sym
    (ne_eqb j (position w es)
    (λ e.
    let s : named w (at es j) ≡ true = rw (e, p.1) (same_refl w) in
    false≢true (sym t ∙ s))))

-- the matches of a prefix stand between its two places
pub begun_not_below : (p w : List ℕ) → begins p w ≡ true → below w p ≡ false
begun_not_below [] w h = below_nil w
  where
    below_nil : (v : List ℕ) → below v [] ≡ false
    below_nil [] = refl
    below_nil (x ∷ v) = refl
begun_not_below (x ∷ p) [] h = absurd (false≢true h)
begun_not_below (x ∷ p) (y ∷ w) h =
    let a = and_true_both (eqb x y) (begins p w) h in
    rw (eq-eqb y x (sym (eqb-true x y a.0))) (begun_not_below p w a.1)

pub place-matches : (p : List ℕ) (es : List Entry) → place true p es ≡ place false p es + length (matches p es)
unfolding place
place-matches p [] = refl
place-matches p (e ∷ es) =
    let ih = place-matches p es in
    by_test (begun p e)
    (λ t. rw (begun_not_below p e.name t, t) (omega arith))
    (λ t. by_test (below e.name p) (λ u. rw (t, u) (omega arith)) (λ u. rw (t, u) (omega arith)))

first_begun : (p : List ℕ) (es : List Entry) → 0 < length (matches p es) → begun p (at es (first_match p es)) ≡ true
first_begun p [] h = absurd (omega arith)
first_begun p (e ∷ es) h = by_test (begun p e) (λ t. rw t t) (λ t. rw t (first_begun p es (rw t at h)))

before_first : (p : List ℕ) (es : List Entry) (i : ℕ) → i < first_match p es → i < length es → begun p (at es i) ≡ false
before_first p [] i h l = absurd (omega arith)
before_first p (e ∷ es) zero h l = by_test (begun p e) (λ t. absurd (omega (arith, (rw t at h)))) (λ t. t)
before_first p (e ∷ es) (suc i) h l =
    by_test (begun p e) (λ t. absurd (omega (arith, (rw t at h))))
    (λ t. before_first p es i (omega (arith, (rw t at h))) (omega arith))

pub place_first : (p : List ℕ) (es : List Entry) → rising es ≡ true → 0 < length (matches p es)
    → place false p es ≡ first_match p es
place_first p es r h =
    let f = first_begun p es h in
    let l = first_fits p es h in
    place_unique false p es r (first_match p es) (omega arith)
    (λ z.
    let i = first_match p es - 1 in
    let b = rising-at es r (first_match p es - 1) (first_match p es) (omega arith) (omega arith) in
    by_test (below (at es (first_match p es - 1)).name p)
    (λ t. rw t)
    (λ t.
    absurd
    (false≢true
    (sym (before_first p es (first_match p es - 1) (omega arith) (omega arith))
    ∙ before-begun p (at es (first_match p es - 1)).name (at es (first_match p es)).name b f t))))
    (λ z. rw (begun_not_below p (at es (first_match p es)).name f))

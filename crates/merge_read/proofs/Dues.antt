-- One turn of two lists in name order: the entry that is due comes first of the joined ones, and the lists go on behind
-- it.
use Prim.Native.Nat.{◌<◌, ℕ}
use mathlib.Core.Path.{◌∙◌, ◌≡◌, ap, refl, sym}
use mathlib.Core.Bool.{Bool, ◌||◌, false, false≢true, not, true}
use mathlib.Core.List.{List, [], ◌∷◌}
use lib.Dec.{eqb}
use lib.ListN.{drop, length}
use native.Mathlib.Omega.{arith}
use borrow.Author.Tests.{eqb-false, ne_eqb, not-false, not-true}
use Rattle.octets.specs.Lists.{all, if◌then◌otherwise◌}
use Rattle.octets.specs.Octets.{below, same}
use Rattle.octets.proofs.Order.{below_asym, below_irrefl, below_total, same_eq, same_refl}
use Rattle.octets.proofs.Tests.{and_true_both, by_test}
use Rattle.entries.specs.Entries.{Entry, at, name_below, rising}
use Rattle.entries.specs.Names.{is_name}
use Rattle.entries.proofs.Valid.{name_some, rising_tail}
use Rattle.merge.specs.Joined.{joined}
use Rattle.merge.proofs.Joined.{join_both, join_first_lem, join_none, join_second}
use Rattle.merge_read.specs.Turns.{is_due, steps}

-- a name has bytes; so has one that is due
not_empty : (w : List ℕ) → is_name w ≡ true → eqb (length w) 0 ≡ false
not_empty w h = ne_eqb (length w) 0 (λ z. let k = name_some w h in omega arith)

pub due_some : (w v : List ℕ) → is_due w v ≡ true → 0 < length w
due_some w v h =
    by_test (eqb (length w) 0)
    (λ t. absurd (false≢true (rw t at h)))
    (λ t. let k = eqb-false (length w) 0 t in omega arith)

-- where one is due, the other is due too if it has the same name
pub due_same : (w v : List ℕ) → is_due w v ≡ true → is_due v w ≡ same v w
due_same w v h =
    by_test (same v w)
    (λ t.
    let q = same_eq v w t in
    let n : eqb (length w) 0 ≡ false = ne_eqb (length w) 0 (λ z. let k = due_some w v h in omega arith) in
    rw (t, q, n, below_irrefl w))
    (λ t.
    by_test (eqb (length v) 0)
    (λ e. rw (e, t))
    (λ e.
    let n : eqb (length w) 0 ≡ false = ne_eqb (length w) 0 (λ z. let k = due_some w v h in omega arith) in
    let b : below v w ≡ false = not-true (below v w) (rw (n, e) at h) in
    by_test (below w v)
    (λ u. rw (e, n, u, t))
    (λ u. let q = below_total w v u b in absurd (false≢true (sym t ∙ rw q (same_refl v))))))

-- where one is not, the other is if it is there at all
pub due_other : (w v : List ℕ) → is_due w v ≡ false → is_due v w ≡ not (eqb (length v) 0)
due_other w v h =
    by_test (eqb (length v) 0)
    (λ e. rw e)
    (λ e.
    by_test (eqb (length w) 0)
    (λ n. rw (e, n))
    (λ n.
    let b : below v w ≡ true = not-false (below v w) (rw (n, e) at h) in
    rw (e, n, below_asym v w b)))

abbrev all_names : List Entry → Bool
all_names es = all (λ e. is_name e.name) es

-- the first entry of either list is due, where its name is next
abbrev pub due_of : List Entry → List Entry → Bool
due_of es fs = is_due (at es 0).name (at fs 0).name

module _ (e : Entry) (es : List Entry) (f : Entry) (fs : List Entry) (a : all_names (e ∷ es) ≡ true) (b : all_names (f
    ∷ fs) ≡ true) where
  some_first : eqb (length e.name) 0 ≡ false
  some_first = not_empty e.name (and_true_both (is_name e.name) (all_names es) a).0

  some_second : eqb (length f.name) 0 ≡ false
  some_second = not_empty f.name (and_true_both (is_name f.name) (all_names fs) b).0

  -- with entries in both, one is due
  one_due : (due_of (e ∷ es) (f ∷ fs) || due_of (f ∷ fs) (e ∷ es)) ≡ true
  one_due =
      rw (some_first, some_second)
      (by_test (name_below f e)
      (λ t. rw (t, below_asym f.name e.name t))
      (λ t. rw t))

  both_turn :
      rising (e ∷ es) ≡ true → rising (f ∷ fs) ≡ true
      → joined (e ∷ es) (f ∷ fs)
      ≡ (if due_of (e ∷ es) (f ∷ fs) then e otherwise f)
      ∷ joined (drop (steps (due_of (e ∷ es) (f ∷ fs))) (e ∷ es)) (drop (steps (due_of (f ∷ fs) (e ∷ es))) (f ∷ fs))
  both_turn r s =
      rw (some_first, some_second)
      (by_test (name_below f e)
      (λ t. rw (t, below_asym f.name e.name t) (join_second e es f fs r s t))
      (λ t.
      by_test (name_below e f)
      (λ u. rw (t, u) (join_first_lem e es f fs r s u))
      (λ u. rw (t, u) (join_both e es f fs r s (below_total e.name f.name u t)))))

pub none_due :
    (es fs : List Entry) → all_names es ≡ true → all_names fs ≡ true → (due_of es fs || due_of fs es) ≡ false → (es ≡ [])
    × (fs ≡ [])
none_due [] [] a b h = (refl, refl)
none_due [] (f ∷ fs) a b h = absurd
    (false≢true (sym (rw (not_empty f.name (and_true_both (is_name f.name) (all_names fs) b).0) at h)))
none_due (e ∷ es) [] a b h = absurd
    (false≢true (sym (rw (not_empty e.name (and_true_both (is_name e.name) (all_names es) a).0) at h)))
none_due (e ∷ es) (f ∷ fs) a b h = absurd (false≢true (sym h ∙ one_due e es f fs a b))

pub due_turn :
    (es fs : List Entry) → all_names es ≡ true → all_names fs ≡ true → rising es ≡ true → rising fs ≡ true
    → (due_of es fs || due_of fs es) ≡ true
    → joined es fs ≡ (if due_of es fs then at es 0 otherwise at fs 0)
    ∷ joined (drop (steps (due_of es fs)) es) (drop (steps (due_of fs es)) fs)
due_turn [] [] a b r s h = absurd (false≢true h)
due_turn [] (f ∷ fs) a b r s h = rw (not_empty f.name (and_true_both (is_name f.name) (all_names fs) b).0)
due_turn (e ∷ es) [] a b r s h =
    rw (not_empty e.name (and_true_both (is_name e.name) (all_names es) a).0)
    (join_none (e ∷ es) r ∙ ap (λ l. e ∷ l) (sym (join_none es (rising_tail e es r))))
due_turn (e ∷ es) (f ∷ fs) a b r s h = both_turn e es f fs a b r s

-- The key of a suffix: 0 if it is empty, else one more than its first byte. Sets by first byte are sets by key.
use Prim.Native.Nat.{◌<◌, ◌≤◌, suc, ℕ}
use mathlib.Core.Path.{◌∙◌, ◌≡◌, ap, refl, sym}
use mathlib.Core.Logic.{◌⊎◌, inl, inr}
use mathlib.Core.Bool.{Bool, false, false≢true, true}
use mathlib.Core.List.{List, [], ◌++◌, ◌∷◌}
use lib.Dec.{eqb, ltb}
use lib.ListN.{length}
use native.Mathlib.Omega.{arith}
use borrow.Author.Tests.{eq-eqb, eqb-false, eqb-true, le-ltb, lt-ltb, ltb-false, ltb-true}
use Rattle.octets.proofs.Lists.{all_append, all_of, concat_in, insert_in, sort_in}
use Rattle.octets.proofs.Order.{below_cases}
use Rattle.octets.proofs.Tests.{by_test}
use Rattle.octets.specs.Lists.{◌∈◌, insert_by, sort_by}
use Rattle.octets.specs.Octets.{below, same}
use Rattle.entries.proofs.Valid.{rising_cons, rising_head, rising_tail}
use Rattle.entries.specs.Entries.{Entry, rising}
use Rattle.trie.proofs.Sets.{OneFirst, flat, one_first}
use Rattle.trie_laws.specs.Keys.{key, set_key}
use Rattle.trie.specs.Trie.{by_first, join_first, same_first}
use Rattle.trie_laws.proofs.Keys.{Ordered, key_below, run-key, same_key}

key-same : (u v : List ℕ) → key u ≡ key v → same_first u v ≡ true
key-same [] [] h = refl
key-same [] (y ∷ v) h = absurd (omega arith)
key-same (x ∷ u) [] h = absurd (omega arith)
key-same (x ∷ u) (y ∷ v) h = eq-eqb x y (omega arith)

key_apart : (u v : List ℕ) → (key u ≡ key v → ⊥) → same_first u v ≡ false
key_apart u v h = by_test (same_first u v) (λ t. absurd (h (same_key u v t))) (λ t. t)

below_key : (u v : List ℕ) → below u v ≡ true → key u ≤ key v
below_key [] v h = omega arith
below_key (x ∷ u) [] h = absurd (false≢true h)
below_key (x ∷ u) (y ∷ v) h = go (below_cases x y u v h)
  where
    go : (x < y) ⊎ ((x ≡ y) × (below u v ≡ true)) → suc x ≤ suc y
    go (inl a) = omega arith
    go (inr a) = let b = a.0 in omega arith

-- with different keys, name order is the order of keys
pub below_ltb : (u v : List ℕ) → (key u ≡ key v → ⊥) → below u v ≡ ltb (key u) (key v)
below_ltb u v h =
    by_test (below u v)
    (λ t. let a = below_key u v t in rw (t, lt-ltb (key u) (key v) (less a)))
    (λ t. rw (t, le-ltb (key u) (key v) (not_less t)))
  where
    less : key u ≤ key v → key u < key v
    less a = by_test (eqb (key u) (key v)) (λ q. absurd (h (eqb-true (key u) (key v) q)))
        (λ q. let z = eqb-false (key u) (key v) q in omega arith)

    not_less : below u v ≡ false → key v ≤ key u
    not_less t = by_test (ltb (key u) (key v)) (λ q. absurd (false≢true (sym t
        ∙ key_below u v (ltb-true (key u) (key v) q)))) (λ q. ltb-false (key u) (key v) q)

pub run_in : (s : List Entry) → OneFirst s → (e : Entry) × (e ∈ s)
run_in s (one_first e es k) = (e, inl refl)

-- sets in rising order of keys, and sets of different keys
abbrev pub keys_differ : List (List Entry) → Type 0
keys_differ [] = Unit {0}
keys_differ (s ∷ ss) = ((t : List Entry) → t ∈ ss → (set_key s ≡ set_key t → ⊥)) × keys_differ ss

pub up_differ : (ss : List (List Entry)) → Ordered ss → keys_differ ss
up_differ [] h = tt
up_differ (s ∷ ss) h = ((λ t m q. let z = h.0 t m in omega arith), up_differ ss h.1)

pub differ_sort : (r : List Entry → List Entry → Bool) (ss : List (List Entry)) → keys_differ ss
    → keys_differ (sort_by r ss)
differ_sort r [] h = tt
differ_sort r (s ∷ ss) h = insert s (sort_by r ss) (λ t m. h.0 t (sort_in r t ss m)) (differ_sort r ss h.1)
  where
    insert : (x : List Entry) (ys : List (List Entry)) → ((t : List Entry) → t ∈ ys → (set_key x ≡ set_key t → ⊥))
        → keys_differ ys → keys_differ (insert_by r x ys)
    insert x [] p d = ((λ t m. absurd m), tt)
    insert x (y ∷ ys) p d =
        by_test (r y x)
        (λ t. rw t ((λ z m. each z (insert_in r z x ys m)), insert x ys (λ z m. p z (inr m)) d.1))
        (λ t. rw t (p, d))
      where
        each : (z : List Entry) → z ∈ (x ∷ ys) → (set_key y ≡ set_key z → ⊥)
        each z (inl e) q = p y (inl refl) (sym (q ∙ ap set_key e))
        each z (inr m) q = d.0 z m q

abbrev pub by_key : List Entry → List Entry → Bool
by_key s t = ltb (set_key s) (set_key t)

pub sort-up : (ss : List (List Entry)) → keys_differ ss → Ordered (sort_by by_key ss)
sort-up [] h = tt
sort-up (s ∷ ss) h = insert s (sort_by by_key ss) (λ t m. h.0 t (sort_in by_key t ss m)) (sort-up ss h.1)
  where
    insert : (x : List Entry) (ys : List (List Entry)) → ((t : List Entry) → t ∈ ys → (set_key x ≡ set_key t → ⊥))
        → Ordered ys → Ordered (insert_by by_key x ys)
    insert x [] p d = ((λ t m. absurd m), tt)
    insert x (y ∷ ys) p d =
        by_test (by_key y x)
        (λ t. rw t ((λ z m. low t z (insert_in by_key z x ys m)), insert x ys (λ z m. p z (inr m)) d.1))
        (λ t. rw t (high t, d))
      where
        low : by_key y x ≡ true → (z : List Entry) → z ∈ (x ∷ ys) → set_key y < set_key z
        low t z (inl e) = rw e (ltb-true (set_key y) (set_key x) t)
        low t z (inr m) = d.0 z m

        first : by_key y x ≡ false → set_key x < set_key y
        first t =
            let a = ltb-false (set_key y) (set_key x) t in
            by_test (eqb (set_key x) (set_key y)) (λ q. absurd (p y (inl refl) (eqb-true (set_key x) (set_key y) q)))
            (λ q. let z = eqb-false (set_key x) (set_key y) q in omega arith)

        high : by_key y x ≡ false → (z : List Entry) → z ∈ (y ∷ ys) → set_key x < set_key z
        high t z (inl e) = rw e (first t)
        high t z (inr m) = let a = first t in let b = d.0 z m in omega arith

-- sets with rising keys are the sets by first byte of all their suffixes
join_new : (e : Entry) (ss : List (List Entry)) → ((s : List Entry) → s ∈ ss → OneFirst s)
    → ((s : List Entry) → s ∈ ss → (key e.name ≡ set_key s → ⊥)) → join_first e ss ≡ (e ∷ []) ∷ ss
join_new e [] r h = refl
join_new e ([] ∷ ss) r h = absurd (empty (r [] (inl refl)) refl)
  where
    empty : {s : List Entry} → OneFirst s → s ≡ [] → ⊥
    empty (one_first f fs k) q = let z : suc (length fs) ≡ 0 = ap length q in omega arith
join_new e ((f ∷ fs) ∷ ss) r h = rw (key_apart e.name f.name (h (f ∷ fs) (inl refl)))

join_run : (e : Entry) (es : List Entry) (ss : List (List Entry)) → OneFirst (e ∷ es)
    → ((s : List Entry) → s ∈ ss → OneFirst s) → ((s : List Entry) → s ∈ ss → (key e.name ≡ set_key s → ⊥))
    → (fs : List Entry) → by_first fs ≡ ss → by_first ((e ∷ es) ++ fs) ≡ (e ∷ es) ∷ ss
join_run e [] ss r rs h fs q = ap (join_first e) q ∙ join_new e ss rs h
join_run e (f ∷ es) ss r rs h fs q =
    let same = run-key (e ∷ f ∷ es) r f (inr (inl refl)) in
    let ih = join_run f es ss (inner r) rs (λ s m z. h s m (sym same ∙ z)) fs q in
    ap (join_first e) ih ∙ rw (key-same e.name f.name (sym same))
  where
    inner : OneFirst (e ∷ f ∷ es) → OneFirst (f ∷ es)
    inner x = one_first f es (λ g m. key-same f.name g.name (run-key (e ∷ f ∷ es) x f (inr (inl refl))
        ∙ sym (run-key (e ∷ f ∷ es) x g (inr (inr m)))))

pub by_first_of : (ss : List (List Entry)) → ((s : List Entry) → s ∈ ss → OneFirst s) → Ordered ss
    → by_first (flat ss) ≡ ss
by_first_of [] r h = refl
by_first_of (s ∷ ss) r h = go s (r s (inl refl)) h.0 (by_first_of ss (λ t m. r t (inr m)) h.1)
  where
    go : (t : List Entry) → OneFirst t → ((u : List Entry) → u ∈ ss → set_key t < set_key u) → by_first (flat ss) ≡ ss
        → by_first (t ++ flat ss) ≡ t ∷ ss
    go t (one_first e es k) l ih = join_run e es ss (one_first e es k) (λ u m. r u (inr m)) (λ u m z. let y = l u m in
        omega arith) (flat ss) ih

-- parts of rising lists
rising-append : (xs ys : List Entry) → rising xs ≡ true → rising ys ≡ true
    → ((e f : Entry) → e ∈ xs → f ∈ ys → below e.name f.name ≡ true) → rising (xs ++ ys) ≡ true
rising-append [] ys h k c = k
rising-append (x ∷ xs) ys h k c =
    rising_cons x (xs ++ ys)
    (all_append (λ f. below x.name f.name) xs ys (rising_head x xs h)
    (all_of (λ f. below x.name f.name) ys (λ f m. c x f (inl refl) m)))
    (rising-append xs ys (rising_tail x xs h) k (λ e f m n. c e f (inr m) n))

pub rising_flat : (ss : List (List Entry)) → ((s : List Entry) → s ∈ ss → OneFirst s)
    → ((s : List Entry) → s ∈ ss → rising s ≡ true) → Ordered ss → rising (flat ss) ≡ true
rising_flat [] r h u = refl
rising_flat (s ∷ ss) r h u =
    rising-append s (flat ss) (h s (inl refl)) (rising_flat ss (λ t m. r t (inr m)) (λ t m. h t (inr m)) u.1)
    (λ e f m n. before e f m (concat_in (λ s. s) f ss n))
  where
    before : (e f : Entry) → e ∈ s → (t : List Entry) × (t ∈ ss) × (f ∈ t) → below e.name f.name ≡ true
    before e f m q =
        let a = run-key s (r s (inl refl)) e m in
        let b = run-key q.0 (r q.0 (inr q.1)) f q.2 in
        let c = u.0 q.0 q.1 in
        key_below e.name f.name (omega arith)

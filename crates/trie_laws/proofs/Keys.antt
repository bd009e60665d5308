-- The sets of suffixes by first byte have rising keys, and a label begins as its suffixes do.
use Prim.Native.Nat.{◌<◌, suc, ℕ}
use mathlib.Core.Path.{◌∙◌, ◌≡◌, ap, refl, sym}
use mathlib.Core.Logic.{◌⊎◌, inl, inr}
use mathlib.Core.Bool.{false, false≢true, true}
use mathlib.Core.List.{List, [], ◌∷◌}
use lib.Dec.{eqb}
use lib.ListN.{length, take}
use native.Mathlib.Omega.{arith}
use borrow.Author.Tests.{eqb-false, eqb-true}
use Rattle.octets.specs.Lists.{◌∈◌}
use Rattle.octets.specs.Octets.{begins, below}
use Rattle.octets.proofs.Order.{begins-take, below_cases, below_less}
use Rattle.octets.proofs.Tests.{and_true_both, by_test, eqb_self}
use Rattle.entries.specs.Entries.{Entry, rising}
use Rattle.entries.proofs.Valid.{rising_tail}
use Rattle.trie.specs.Trie.{by_first, common_prefix, join_first, label_of, same_first}
use Rattle.trie.proofs.Sets.{OneFirst, common_prefix-begins, one_first, same_first_starts, starts, starts_prefix}
use Rattle.trie_laws.specs.Keys.{key, set_key}

-- the first set begins with the first suffix
pub record FirstSet (f : Entry) (fs : List Entry) : Type 0 where
  pub more : List Entry
  pub others : List (List Entry)
  pub eq : by_first (f ∷ fs) ≡ (f ∷ more) ∷ others

join_head : (f : Entry) (ss : List (List Entry)) → (m : List Entry) × (o : List (List Entry))
    × (join_first f ss ≡ (f ∷ m) ∷ o)
join_head f [] = ([], [], refl)
join_head f ([] ∷ ss) = ([], ss, refl)
join_head f ((g ∷ gs) ∷ ss) = by_test (same_first f.name g.name) (λ t. (g ∷ gs, ss, rw t)) (λ t. (
  [],
  (g ∷ gs)
      ∷ ss,
  rw t,
))

pub first_head : (f : Entry) (fs : List Entry) → FirstSet f fs
first_head f fs = let j = join_head f (by_first fs) in record { more = j.0; others = j.1; eq = j.2 }

pub join_apart : (x f : Entry) (m : List Entry) (o : List (List Entry)) → same_first x.name f.name ≡ false
    → join_first x ((f ∷ m) ∷ o) ≡ (x ∷ []) ∷ (f ∷ m) ∷ o
join_apart x f m o t = rw t

pub join_same : (x f : Entry) (m : List Entry) (o : List (List Entry)) → same_first x.name f.name ≡ true
    → join_first x ((f ∷ m) ∷ o) ≡ (x ∷ f ∷ m) ∷ o
join_same x f m o t = rw t

abbrev pub Ordered : List (List Entry) → Type 0
Ordered [] = Unit {0}
Ordered (s ∷ ss) = ((t : List Entry) → t ∈ ss → set_key s < set_key t) × Ordered ss

pub same_key : (u v : List ℕ) → same_first u v ≡ true → key u ≡ key v
same_key [] [] h = refl
same_key [] (y ∷ v) h = absurd (false≢true h)
same_key (x ∷ u) [] h = absurd (false≢true h)
same_key (x ∷ u) (y ∷ v) h = ap suc (eqb-true x y h)

pub key_below : (u v : List ℕ) → key u < key v → below u v ≡ true
key_below [] [] h = absurd (omega arith)
key_below [] (y ∷ v) h = refl
key_below (x ∷ u) [] h = absurd (omega arith)
key_below (x ∷ u) (y ∷ v) h = below_less x y u v (omega arith)

pub key-some : (l : List ℕ) → (length l ≡ 0 → ⊥) → 0 < key l
key-some [] h = absurd (h refl)
key-some (x ∷ l) h = omega arith

below_key : (u v : List ℕ) → below u v ≡ true → same_first u v ≡ false → key u < key v
below_key u [] h k = absurd (false≢true h)
below_key [] (y ∷ v) h k = omega arith
below_key (x ∷ u) (y ∷ v) h k = go (below_cases x y u v h)
  where
    go : (x < y) ⊎ ((x ≡ y) × (below u v ≡ true)) → suc x < suc y
    go (inl a) = omega arith
    go (inr a) = absurd (eqb-false x y k a.0)

pub by_first_ordered : (es : List Entry) → rising es ≡ true → Ordered (by_first es)
by_first_ordered [] r = tt
by_first_ordered (e ∷ []) r = ((λ t m. absurd m), tt)
by_first_ordered (e ∷ f ∷ es) r = go (first_head f es) (by_first_ordered (f ∷ es) (rising_tail e (f ∷ es) r))
  where
    b : below e.name f.name ≡ true
    b = (and_true_both (below e.name f.name) (rising (f ∷ es)) r).0

    go : (h : FirstSet f es) → Ordered (by_first (f ∷ es)) → Ordered (by_first (e ∷ f ∷ es))
    go h o =
        let p : Ordered ((f ∷ h.more) ∷ h.others) = rw h.eq at o in
        by_test (same_first e.name f.name)
        (λ t. rw (h.eq, join_same e f h.more h.others t)
        ((λ s m. let q = p.0 s m in let k = same_key e.name f.name t in omega arith), p.1))
        (λ t. rw (h.eq, join_apart e f h.more h.others t) ((λ s m. lower t s m p), p))
      where
        lower : same_first e.name f.name ≡ false → (s : List Entry) → s ∈ ((f ∷ h.more) ∷ h.others)
            → Ordered ((f ∷ h.more) ∷ h.others) → key e.name < set_key s
        lower t s (inl q) p = rw q (below_key e.name f.name b t)
        lower t s (inr m) p = let a = p.0 s m in let k = below_key e.name f.name b t in omega arith

-- each suffix of a set has its key
pub run-key : (s : List Entry) → OneFirst s → (e : Entry) → e ∈ s → key e.name ≡ set_key s
run-key s (one_first f fs k) e (inl q) = ap (λ x. key x.name) q
run-key s (one_first f fs k) e (inr m) = sym (same_key f.name e.name (k e m))

-- a label begins as the suffixes do
label_empty : (e : Entry) (es : List Entry) → e.name ≡ [] → label_of (e ∷ es) ≡ []
label_empty e es q = go (label_of (e
    ∷ es)) e.name (begins-take 7 (common_prefix (e ∷ es)) e.name (common_prefix-begins (e ∷ es) e (inl refl))) q
  where
    go : (l w : List ℕ) → begins l w ≡ true → w ≡ [] → l ≡ []
    go [] w h z = refl
    go (x ∷ l) [] h z = absurd (false≢true h)
    go (x ∷ l) (y ∷ w) h z = cc

starts_key : (x : ℕ) (p : List ℕ) → starts x p ≡ true → key (take 7 p) ≡ suc x
starts_key x [] h = absurd (false≢true h)
starts_key x (y ∷ p) h = ap suc (sym (eqb-true x y (and_true_both (eqb x y) true h).0))

pub label_key : (s : List Entry) → OneFirst s → key (label_of s) ≡ set_key s
label_key s (one_first e es k) = go e.name refl
  where
    each : (x : ℕ) (w : List ℕ) → e.name ≡ x ∷ w → (f : Entry) → f ∈ (e ∷ es) → starts x f.name ≡ true
    each x w q f (inl r) = rw (r, q) (rw (eqb_self x))
    each x w q f (inr m) = same_first_starts x w f.name (rw q at (k f m))

    go : (w : List ℕ) → e.name ≡ w → key (label_of (e ∷ es)) ≡ key e.name
    go [] q = rw (label_empty e es q, q)
    go (x ∷ w) q = starts_key x (common_prefix (e ∷ es)) (starts_prefix x e es (each x w q)) ∙ sym (ap key q)

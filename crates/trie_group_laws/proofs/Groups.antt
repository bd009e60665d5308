-- Sibling sets in their order and the suffixes they are the sets of: each gives the other.
use Prim.Native.Nat.{◌+◌, ◌<◌, ◌≤◌, suc, ℕ}
use mathlib.Core.Path.{◌∙◌, ◌≡◌, ap, refl, sym}
use mathlib.Core.Logic.{inl, inr}
use mathlib.Core.Bool.{Bool, false, false≢true, true}
use mathlib.Core.List.{List, [], ◌++◌, ◌∷◌, append-nil, map}
use lib.Dec.{eqb, ltb}
use lib.ListN.{length, length-append, take}
use native.Mathlib.Omega.{arith}
use borrow.Author.Tests.{eqb-false, eqb-true, ltb-true}
use Rattle.octets.proofs.Lists.{concat_in, in_sort, sort_in, sort-length, sort-map}
use Rattle.octets.proofs.Order.{begins_split}
use Rattle.octets.proofs.Tests.{by_test}
use Rattle.octets.specs.Lists.{◌∈◌, if◌then◌otherwise◌, insert_by, sort_by}
use Rattle.octets.specs.Octets.{begins, below}
use Rattle.entries.proofs.Rank.{not_outranks_trans, outranks_asym, outranks_total}
use Rattle.entries.specs.Entries.{Entry, entry, rising}
use Rattle.trie.proofs.Sets.{OneFirst, by_first_flat, by_first-run, common_prefix-begins, flat, in_flat, set-rising}
use Rattle.trie.proofs.Trie.{by_first-some, highest-append, highest-sort}
use Rattle.trie.specs.Reading.{prefixed}
use Rattle.trie.specs.Trie.{by_first, common_prefix, highest, label_of, node_of, stands_before, used_up}
use Rattle.trie_group_laws.proofs.Keys.{below_ltb, by_first_of, by_key, differ_sort, keys_differ}
use Rattle.trie_group_laws.proofs.Keys.{rising_flat, run_in, sort-up, up_differ}
use Rattle.trie_group_laws.proofs.Made.{Facts, Made, Suffixes, inner, leaf, made_facts, plain_made}
use Rattle.trie_group_laws.proofs.Sort.{Order, all_parted, chain, parted, sort_chain, sort_fixed, sort-sort}
use Rattle.trie_laws.specs.Keys.{key, set_before, set_key}
use Rattle.trie_laws.proofs.Keys.{by_first_ordered, key-some, label_key, run-key}

set-order : Order set_before
set-order =
    record {
      asym = λ s t h. outranks_asym (entry (label_of s) (highest s)) (entry (label_of t) (highest t)) h;
      weak = λ s t u h k. not_outranks_trans (entry (label_of s) (highest s)) (entry (label_of t) (highest t))
          (entry (label_of u) (highest u)) h k;
    }

set_parted : (s t : List Entry) → (key (label_of s) ≡ key (label_of t) → ⊥) → parted set_before s t
set_parted s t h =
    by_test (set_before s t) inl
    (λ a.
    by_test (set_before t s) inr
    (λ b. absurd (h (ap (λ e. key e.name)
    (outranks_total (entry (label_of s) (highest s)) (entry (label_of t) (highest t)) a b)))))

-- with different keys: falling scores, at equal scores rising keys
pub set_before_lem : (s t : List Entry) → (key (label_of s) ≡ key (label_of t) → ⊥)
    → set_before s t ≡ (if eqb (highest s) (highest t) then ltb (key (label_of s)) (key (label_of t)) otherwise ltb (highest t)
    (highest s))
set_before_lem s t h = rw (below_ltb (label_of s) (label_of t) h)

-- The sets of siblings in their order.
pub record Siblings (path half : ℕ) (full : Bool) (ss : List (List Entry)) : Type 0 where
  pub some : 0 < length ss
  pub made : (s : List Entry) → s ∈ ss → Made path half (label_of s) (highest s) s
  pub differ : keys_differ ss
  pub order : chain set_before ss
  pub lone : (s : List Entry) → ss ≡ s ∷ [] → (full ≡ true) × (0 < set_key s)

module _ (ss : List (List Entry)) (r : (s : List Entry) → s ∈ ss → OneFirst s) (u : (s : List Entry) → s ∈ ss
    → rising s ≡ true) (d : keys_differ ss) where
  differ_parted : all_parted set_before ss
  differ_parted = go ss r u d
    where
      go : (ts : List (List Entry)) → ((s : List Entry) → s ∈ ts → OneFirst s)
          → ((s : List Entry) → s ∈ ts → rising s ≡ true) → keys_differ ts → all_parted set_before ts
      go [] r' u' d' = tt
      go (s ∷ ts) r' u' d' = (
        (λ t m. set_parted s t (λ q. d'.0 t m (sym (label_key s (r' s (inl refl))) ∙ q
            ∙ label_key t (r' t (inr m))))),
        go ts (λ t m. r' t (inr m)) (λ t m. u' t (inr m)) d'.1,
      )

  sorted_run : (s : List Entry) → s ∈ sort_by by_key ss → OneFirst s
  sorted_run s m = r s (sort_in by_key s ss m)

  gathered_sets : by_first (flat (sort_by by_key ss)) ≡ sort_by by_key ss
  gathered_sets = by_first_of (sort_by by_key ss) sorted_run (sort-up ss d)

  gathered_up : rising (flat (sort_by by_key ss)) ≡ true
  gathered_up = rising_flat (sort_by by_key ss) sorted_run (λ s m. u s (sort_in by_key s ss m)) (sort-up ss d)

  pub gathered_nodes : (b : List Entry → List ℕ) → chain set_before ss
      → sort_by stands_before (map (node_of b) (by_first (flat (sort_by by_key ss)))) ≡ map (node_of b) ss
  unfolding node_of
  gathered_nodes b c =
      rw (gathered_sets)
      (sym (sort-map (node_of b) stands_before (sort_by by_key ss))
      ∙ ap (map (node_of b)) (sort-sort set-order by_key ss differ_parted ∙ sort_fixed set-order ss c))

-- the suffixes of sibling sets
abbrev pub gathered : List (List Entry) → List Entry
gathered ss = flat (sort_by by_key ss)

-- what adds up over suffixes does not depend on the order of the sets
module _ (m : List Entry → ℕ) (sum : (a b : List Entry) → m (a ++ b) ≡ m a + m b) where
  sum_insert : (r : List Entry → List Entry → Bool) (s : List Entry) (ss : List (List Entry))
      → m (flat (insert_by r s ss)) ≡ m s + m (flat ss)
  sum_insert r s [] = sum s []
  sum_insert r s (t ∷ ss) =
      let ih = sum_insert r s ss in
      let a = sum t (flat (insert_by r s ss)) in
      let b = sum t (flat ss) in
      let c = sum s (t ++ flat ss) in
      by_test (r t s) (λ q. rw q (omega arith)) (λ q. rw q (omega arith))

  pub sum_sort : (r : List Entry → List Entry → Bool) (ss : List (List Entry)) → m (flat (sort_by r ss)) ≡ m (flat ss)
  sum_sort r [] = refl
  sum_sort r (s ∷ ss) =
      let ih = sum_sort r ss in
      let a = sum_insert r s (sort_by r ss) in
      let b = sum s (flat ss) in
      omega arith

-- the first set of siblings has the highest score
top_of : (s t : List Entry) → set_before s t ≡ true → highest t ≤ highest s
top_of s t h =
    by_test (eqb (highest s) (highest t))
    (λ q. let e = eqb-true (highest s) (highest t) q in omega arith)
    (λ q. let e = ltb-true (highest t) (highest s) (rw q at h) in omega arith)

pub first_top : (s : List Entry) (ss : List (List Entry)) → chain set_before (s ∷ ss)
    → highest (flat (s ∷ ss)) ≡ highest s
first_top s [] c = let a = highest-append s [] in omega arith
first_top s (t ∷ ss) c =
    let ih = first_top t ss c.1 in
    let a = highest-append s (flat (t ∷ ss)) in
    let b = top_of s t c.0 in
    omega arith

-- two suffixes of different keys have no common prefix
no_prefix : (es : List Entry) (e f : Entry) → e ∈ es → f ∈ es → (key e.name ≡ key f.name → ⊥)
    → common_prefix es ≡ []
no_prefix es e f m n h = go (common_prefix es) (common_prefix-begins es e m) (common_prefix-begins es f n)
  where
    first : (x : ℕ) (p w : List ℕ) → begins (x ∷ p) w ≡ true → key w ≡ suc x
    first x p w b = ap key (begins_split (x ∷ p) w b)

    go : (p : List ℕ) → begins p e.name ≡ true → begins p f.name ≡ true → p ≡ []
    go [] b c = refl
    go (x ∷ p) b c = absurd (h (first x p e.name b ∙ sym (first x p f.name c)))

used_one : (es : List Entry) → used_up 0 es ≡ true → (e : Entry) → e ∈ es → key e.name ≡ 0
used_one [] h e m = absurd m
used_one (f ∷ []) h e (inl q) = ap (λ x. key x.name) q ∙ go f.name (eqb-true (length f.name) 0 h)
  where
    go : (w : List ℕ) → length w ≡ 0 → key w ≡ 0
    go [] z = refl
    go (x ∷ w) z = absurd (omega arith)
used_one (f ∷ []) h e (inr m) = absurd m
used_one (f ∷ g ∷ es) h e m = absurd (false≢true h)

module _ (path half : ℕ) (full : Bool) (ss : List (List Entry)) (h : Siblings path half full ss) where
  facts : (s : List Entry) → s ∈ ss → Facts path half (label_of s) (highest s) s
  facts s m = made_facts (h.made s m)

  pub siblings-run : (s : List Entry) → s ∈ ss → OneFirst s
  siblings-run s m = (facts s m).run

  pub siblings-up : (s : List Entry) → s ∈ ss → rising s ≡ true
  siblings-up s m = (facts s m).up

  whence : (e : Entry) → e ∈ gathered ss → (s : List Entry) × (s ∈ ss) × (e ∈ s)
  whence e m = let q = concat_in (λ s. s) e (sort_by by_key ss) m in (q.0, sort_in by_key q.0 ss q.1, q.2)

  whither : (s : List Entry) → s ∈ ss → (e : Entry) → e ∈ s → e ∈ gathered ss
  whither s m e n = in_flat e s (sort_by by_key ss) n (in_sort by_key s ss m)

  gathered_key : (s : List Entry) → s ∈ ss → (e : Entry) × (e ∈ gathered ss) × (key e.name ≡ set_key s)
  gathered_key s m =
      let i = run_in s (siblings-run s m) in
      (i.0, whither s m i.0 i.1, run-key s (siblings-run s m) i.0 i.1)

gather_lone : (path half : ℕ) (full : Bool) (ss : List (List Entry)) → Siblings path half full ss
    → used_up 0 (gathered ss) ≡ true
    → ⊥
gather_lone path half full [] h u = let z = h.some in omega arith
gather_lone path half full (s ∷ []) h u =
    let a = (h.lone s refl).1 in
    let k = gathered_key path half full (s ∷ []) h s (inl refl) in
    let z = used_one (gathered (s ∷ [])) u k.0 k.1 in
    let q = k.2 in
    omega arith
gather_lone path half full (s ∷ t ∷ ss) h u =
    let k = gathered_key path half full (s ∷ t ∷ ss) h s (inl refl) in
    let l = gathered_key path half full (s ∷ t ∷ ss) h t (inr (inl refl)) in
    let y = used_one (gathered (s ∷ t ∷ ss)) u k.0 k.1 in
    let z = used_one (gathered (s ∷ t ∷ ss)) u l.0 l.1 in
    h.differ.0 t (inl refl) (sym k.2 ∙ y ∙ sym z ∙ l.2)

gather_wide : (path half : ℕ) (full : Bool) (ss : List (List Entry)) → Siblings path half full ss → full ≡ false
    → common_prefix (gathered ss) ≡ []
gather_wide path half full [] h f = let z = h.some in absurd (omega arith)
gather_wide path half full (s ∷ []) h f = absurd (false≢true (sym f ∙ (h.lone s refl).0))
gather_wide path half full (s ∷ t ∷ ss) h f =
    let k = gathered_key path half full (s ∷ t ∷ ss) h s (inl refl) in
    let l = gathered_key path half full (s ∷ t ∷ ss) h t (inr (inl refl)) in
    no_prefix (gathered (s ∷ t ∷ ss)) k.0 l.0 k.1 l.1 (λ q. h.differ.0 t (inl refl) (sym k.2 ∙ q
    ∙ l.2))

gather_some : (path half : ℕ) (full : Bool) (ss : List (List Entry)) → Siblings path half full ss
    → 0 < length (gathered ss)
gather_some path half full [] h = let z = h.some in absurd (omega arith)
gather_some path half full (s ∷ ss) h = some (gathered (s ∷ ss)) (gathered_key path half full (s ∷ ss) h s (inl refl))
  where
    some : (es : List Entry) → (e : Entry) × (e ∈ es) × (key e.name ≡ set_key s) → 0 < length es
    some [] k = absurd k.1
    some (e ∷ es) k = omega arith

-- sibling sets gathered are what a group is made of
pub gather : (path half : ℕ) (full : Bool) (ss : List (List Entry)) → Siblings path half full ss
    → Suffixes path half full (gathered ss)
gather path half full ss h =
    record {
      some = gather_some path half full ss h;
      up = gathered_up ss (siblings-run path half full ss h) (siblings-up path half full ss h) h.differ;
      allowed = λ e m. let q = whence path half full ss h e m in
          (facts path half full ss h q.0 q.1).allowed e q.2;
      short = λ e m. let q = whence path half full ss h e m in (facts path half full ss h q.0 q.1).short e q.2;
      fits = λ e m. let q = whence path half full ss h e m in (facts path half full ss h q.0 q.1).fits e q.2;
      ends = λ z e m. let q = whence path half full ss h e m in
          (facts path half full ss h q.0 q.1).ends z e q.2;
      lone = by_test (used_up 0 (gathered ss)) (λ t. absurd (gather_lone path half full ss h t)) (λ t. t);
      wide = gather_wide path half full ss h;
    }

-- what a group is made of, as sibling sets
abbrev pub scattered : List Entry → List (List Entry)
scattered es = sort_by set_before (by_first es)

made_key : {path half : ℕ} {l : List ℕ} {v : ℕ} {s : List Entry} → Made path half l v s → used_up 0 s ≡ false
    → 0 < set_key s
made_key (leaf {l} {v} h) u = key-some l (eqb-false (length l) 0 u)
made_key {path} {half} (inner {l} {es} h) u = go l es h.some h.below.some
  where
    go : (w : List ℕ) (fs : List Entry) → 0 < length w → 0 < length fs → 0 < set_key (prefixed w fs)
    go [] fs a b = absurd (omega arith)
    go (x ∷ w) [] a b = absurd (omega arith)
    go (x ∷ w) (f ∷ fs) a b = omega arith

sort-one : (r : List Entry → List Entry → Bool) (ss : List (List Entry)) (s : List Entry) → sort_by r ss ≡ s ∷ []
    → ss ≡ s ∷ []
sort-one r ss s q = go ss (sym (sort-length r ss) ∙ ap length q) q
  where
    go : (ts : List (List Entry)) → length ts ≡ 1 → sort_by r ts ≡ s ∷ [] → ts ≡ s ∷ []
    go [] n p = absurd (omega arith)
    go (t ∷ []) n p = p
    go (t ∷ t' ∷ ts) n p = absurd (omega arith)

module _ (path half : ℕ) (full : Bool) (es : List Entry) (h : Suffixes path half full es) where
  set_of_lem : (s : List Entry) → s ∈ by_first es → (e : Entry) → e ∈ s → e ∈ es
  set_of_lem s m e n = rw (by_first_flat es) at (in_flat e s (by_first es) n m)

  set-up : (s : List Entry) → s ∈ by_first es → rising s ≡ true
  set-up s m = set-rising es s h.up m

  set_made : (s : List Entry) → s ∈ by_first es → Made path half (label_of s) (highest s) s
  set_made s m =
      plain_made path half s
      (record {
        run = by_first-run es s m;
        up = set-up s m;
        allowed = λ e n. h.allowed e (set_of_lem s m e n);
        short = λ e n. h.short e (set_of_lem s m e n);
        fits = λ e n. h.fits e (set_of_lem s m e n);
        ends = λ z e n. h.ends z e (set_of_lem s m e n);
      })

  one_set : (s : List Entry) → by_first es ≡ s ∷ [] → es ≡ s
  one_set s q = sym (by_first_flat es) ∙ ap flat q ∙ append-nil s

  scatter_lone : (s : List Entry) → by_first es ≡ s ∷ [] → (full ≡ true) × (0 < set_key s)
  scatter_lone s q =
      let m : s ∈ by_first es = rw q (inl refl) in
      let w = one_set s q in
      let k = made_key (set_made s m) (sym (ap (used_up 0) w) ∙ h.lone) in (
        by_test full (λ t. t)
            (λ t.
            let p : common_prefix s ≡ [] = sym (ap common_prefix w) ∙ h.wide t in
            let l : key (label_of s) ≡ 0 = ap (λ x. key (take 7 x)) p in
            let z = label_key s (by_first-run es s m) in
            absurd (omega arith)),
        k,
      )

  pub scatter : Siblings path half full (scattered es)
  scatter =
      let d = up_differ (by_first es) (by_first_ordered es h.up) in
      record {
        some = let a = sort-length set_before (by_first es) in let b = by_first-some es h.some in omega arith;
        made = λ s m. set_made s (sort_in set_before s (by_first es) m);
        differ = differ_sort set_before (by_first es) d;
        order = sort_chain set-order (by_first es) (differ_parted (by_first es) (by_first-run es) set-up d);
        lone = λ s q. scatter_lone s (sort-one set_before (by_first es) s q);
      }

pub scattered_nodes : (b : List Entry → List ℕ) (es : List Entry)
    → sort_by stands_before (map (node_of b) (by_first es)) ≡ map (node_of b) (scattered es)
unfolding node_of
scattered_nodes b es = sym (sort-map (node_of b) stands_before (by_first es))

pub scattered_length : (es : List Entry) → length (flat (scattered es)) ≡ length es
scattered_length es = sum_sort length length-append set_before (by_first es) ∙ ap length (by_first_flat es)

pub scattered_top : (es : List Entry) → highest (flat (scattered es)) ≡ highest es
scattered_top es = highest-sort set_before (by_first es) ∙ ap highest (by_first_flat es)

pub gathered_length : (ss : List (List Entry)) → length (gathered ss) ≡ length (flat ss)
gathered_length ss = sum_sort length length-append by_key ss

pub gathered_top : (ss : List (List Entry)) → highest (gathered ss) ≡ highest (flat ss)
gathered_top ss = highest-sort by_key ss

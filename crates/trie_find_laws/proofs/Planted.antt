-- The forest of a rising set holds its entries, and is what the search needs.
use Prim.Native.Nat.{◌<◌, ◌≤◌, suc, zero, ℕ}
use mathlib.Core.Path.{◌∙◌, ◌≡◌, ap, refl, sym}
use mathlib.Core.Logic.{◌⊎◌, inl, inr}
use mathlib.Core.Bool.{Bool, false, false≢true, true}
use mathlib.Core.List.{List, [], ◌++◌, ◌∷◌, append_assoc, map}
use native.Mathlib.Nat.{not-suc-le-zero}
use native.Mathlib.Omega.{arith}
use lib.Dec.{eqb}
use lib.ListN.{drop, length, take}
use borrow.Author.Tests.{eqb-true, le-ltb}
use lib.Seq.{drop-append_seam}
use Rattle.octets.specs.Lists.{◌∈◌, insert_by, sort_by}
use Rattle.octets.specs.Octets.{begins, below}
use Rattle.octets.proofs.Count.{count, count-append, count-concat-sort, count_ext, count_map}
use Rattle.octets.proofs.Lists.{all_in, append_in, in_map, insert_in, map_in, sort_in, sort-length, sort-map}
use Rattle.octets.proofs.Sorted.{sorted}
use Rattle.octets.proofs.Tests.{and_intro, and_true_both, by_test, eqb_self}
use Rattle.entries.specs.Completion.{completion, matches}
use Rattle.entries.specs.Entries.{Entry, by_rank, entry, outranks, rising, valid}
use Rattle.entries.specs.Names.{is_name}
use Rattle.entries.proofs.BestList.{different-rising, outranks_false}
use Rattle.entries.proofs.Rank.{not_outranks_trans, rank_sorted}
use Rattle.entries.proofs.Same.{counted, in_counted, same_entry}
use Rattle.entries.proofs.Valid.{name_length, valid_of}
use Rattle.trie.specs.Reading.{prefixed}
use Rattle.trie.specs.Trie.{by_first, highest, label_of, levels, remains, used_up}
use Rattle.trie.proofs.Sets.{OneFirst, by_first_flat, by_first-run, highest-remains, label_progress, label_split}
use Rattle.trie.proofs.Sets.{flat, one_first, set-rising, stripped, used_up_lem}
use Rattle.trie.proofs.Trie.{highest-append, highest_flat, highest-sort, remains_shorter}
use Rattle.trie_laws.proofs.Keys.{Ordered, by_first_ordered, label_key, run-key}
use Rattle.trie_find_laws.proofs.Search.{forest_offers, rank_same}
use Rattle.trie_find_laws.specs.Search.{Clear, Forest, Proper, WaitingForest, front_waits, inside, known, none}
use Rattle.trie_find_laws.specs.Search.{own_entries, search_offers, top, tree}
use Rattle.trie_find_laws.specs.Planted.{kids_of, plant, plant_all}
use Rattle.octets.proofs.Order.{begins_behind, below-append}
use Rattle.trie_laws.specs.Keys.{key, node_entry, set_before, set_key}

-- levels are enough, and names rise
pub record Fine (d : ℕ) (es : List Entry) : Type 0 where
  pub short : (e : Entry) → e ∈ es → length e.name < d
  pub rises : rising es ≡ true

rising-remains : (l : List ℕ) (s : List Entry) → ((e : Entry) → e ∈ s → e.name ≡ l ++ drop (length l) e.name)
    → rising s ≡ true → rising (remains (length l) s) ≡ true
rising-remains l [] h r = refl
rising-remains l (x ∷ []) h r = refl
rising-remains l (x ∷ y ∷ s) h r =
    let a = and_true_both (below x.name y.name) (rising (y ∷ s)) r in
    let p = h x (inl refl) in
    let q = h y (inr (inl refl)) in
    and_intro (below (drop (length l) x.name) (drop (length l) y.name)) (rising (remains (length l) (y ∷ s)))
    (sym (below-append l (drop (length l) x.name) (drop (length l) y.name)) ∙ (λ i. below (sym p i) (sym q i))
    ∙ a.0)
    (rising-remains l (y ∷ s) (λ e m. h e (inr m)) a.1)

pub set_fine : (d : ℕ) (es s : List Entry) → Fine (suc d) es → s ∈ by_first es → used_up (length (label_of s)) s ≡ false
    → Fine d (remains (length (label_of s)) s)
set_fine d es s z m u =
    let r = set-rising es s z.rises m in
    record {
      short = remains_shorter d es s z.short (different-rising s r) m u;
      rises = rising-remains (label_of s) s (label_split s) r;
    }

-- what a forest holds
pub inside_cons : (p l : List ℕ) (s : ℕ) (kids next : Forest) → inside p (tree l s kids next) ≡ own_entries p l s kids
    ++ inside p next
inside_cons p l s none next = refl
inside_cons p l s (tree a b c d) next = refl

own_inner : (p l : List ℕ) (s : ℕ) (kids : Forest) → (kids ≡ none → ⊥)
    → own_entries p l s kids ≡ inside (p ++ l) kids
own_inner p l s none h = absurd (h refl)
own_inner p l s (tree a b c d) h = refl

pub kids_none : (b : List Entry → Forest) (s : List Entry) → used_up (length (label_of s)) s ≡ true → kids_of b s ≡ none
unfolding kids_of
kids_none b s t = rw (t, kids_of)

pub kids_some : (b : List Entry → Forest) (s : List Entry) → used_up (length (label_of s)) s ≡ false
    → kids_of b s ≡ b (remains (length (label_of s)) s)
unfolding kids_of
kids_some b s t = rw (t, kids_of)

join_more : (e : Entry) (es : List Entry) → 0 < length (by_first (e ∷ es))
join_more e es = go (by_first (e ∷ es)) (ap length (by_first_flat (e ∷ es)))
  where
    go : (ss : List (List Entry)) → length (flat ss) ≡ suc (length es) → 0 < length ss
    go [] q = absurd (omega arith)
    go (s ∷ ss) q = omega arith

planted : (b : List Entry → Forest) (ss : List (List Entry)) → 0 < length ss → plant_all b ss ≡ none → ⊥
planted b [] h q = not-suc-le-zero h
planted b (s ∷ ss) h q = let z : ◌≡◌ {A = ℕ} 0 1 = cc in omega arith

pub plant-some : (d : ℕ) (e : Entry) (es : List Entry) → Fine d (e ∷ es) → plant d (e ∷ es) ≡ none → ⊥
plant-some zero e es z q = not-suc-le-zero (z.short e (inl refl))
plant-some (suc d) e es z q = let a = join_more e es in let b = sort-length set_before (by_first (e ∷ es)) in
    planted (plant d) (sort_by set_before (by_first (e ∷ es))) (omega arith) q

pub remains_planted : (d : ℕ) (s : List Entry) → OneFirst s → Fine d (remains (length (label_of s)) s)
    → plant d (remains (length (label_of s)) s) ≡ none → ⊥
remains_planted d s (one_first e es k) z = plant-some d (stripped (length (label_of (e ∷ es))) e)
    (remains (length (label_of (e ∷ es))) es) z

pub prefixed_more : (p l : List ℕ) (s : List Entry) (q : Entry → Bool)
    → ((e : Entry) → e ∈ s → e.name ≡ l ++ drop (length l) e.name)
    → count q (prefixed (p ++ l) (remains (length l) s)) ≡ count q (prefixed p s)
prefixed_more p l s q h =
    count_map (λ e. entry ((p ++ l) ++ e.name) e.score) q (remains (length l) s)
    ∙ count_map (stripped (length l)) (λ e. q (entry ((p ++ l) ++ e.name) e.score)) s
    ∙ count_ext (λ e. q (entry ((p ++ l) ++ drop (length l) e.name) e.score)) (λ e. q (entry (p
    ++ e.name) e.score)) s
    (λ e m. ap (λ w. q (entry w e.score)) (append_assoc p l (drop (length l) e.name)
    ∙ ap (λ w. p ++ w) (sym (h e m))))
    ∙ sym (count_map (λ e. entry (p ++ e.name) e.score) q s)

-- the entries of one set
pub set-count : (d : ℕ) (p : List ℕ) (es s : List Entry) (q : Entry → Bool) → Fine (suc d) es → s ∈ by_first es
    → ((t : List Entry) → Fine d t → count q (inside (p ++ label_of s) (plant d t)) ≡ count q (prefixed (p
    ++ label_of s) t)) → count q (own_entries p (label_of s) (highest s) (kids_of (plant d) s)) ≡ count q (prefixed p s)
set-count d p es s q z m ih =
    by_test (used_up (length (label_of s)) s)
    (λ t. rw (kids_none (plant d) s t) (ap (λ x. count q (prefixed p x)) (sym (used_up_lem s t))))
    (λ t.
    let f = set_fine d es s z m t in
    rw (
      kids_some (plant d) s t,
      own_inner p (label_of s) (highest s) (plant d (remains (length (label_of s)) s))
          (remains_planted d s (by_first-run es s m) f),
    )
    (ih (remains (length (label_of s)) s) f ∙ prefixed_more p (label_of s) s q (label_split s)))

pub prefixed-append : (p : List ℕ) (xs ys : List Entry) → prefixed p (xs ++ ys) ≡ prefixed p xs ++ prefixed p ys
prefixed-append p [] ys = refl
prefixed-append p (x ∷ xs) ys = ap (λ l. entry (p ++ x.name) x.score ∷ l) (prefixed-append p xs ys)

all-count : (b : List Entry → Forest) (p : List ℕ) (ss : List (List Entry)) (q : Entry → Bool)
    → ((s : List Entry) → s ∈ ss → count q (own_entries p (label_of s) (highest s) (kids_of b s)) ≡ count q (prefixed p s))
    → count q (inside p (plant_all b ss)) ≡ count q (prefixed p (flat ss))
all-count b p [] q h = refl
all-count b p (s ∷ ss) q h =
    let ih = all-count b p ss q (λ t m. h t (inr m)) in
    let a = h s (inl refl) in
    let c = count-append q (own_entries p (label_of s) (highest s) (kids_of b s)) (inside p (plant_all b ss)) in
    let e = count-append q (prefixed p s) (prefixed p (flat ss)) in
    rw (inside_cons p (label_of s) (highest s) (kids_of b s) (plant_all b ss), prefixed-append p s (flat ss)) (omega arith)

pub plant-count : (d : ℕ) (p : List ℕ) (es : List Entry) → Fine d es → (q : Entry → Bool)
    → count q (inside p (plant d es)) ≡ count q (prefixed p es)
plant-count zero p [] z q = refl
plant-count zero p (e ∷ es) z q = absurd (not-suc-le-zero (z.short e (inl refl)))
plant-count (suc d) p es z q =
    let ss = sort_by set_before (by_first es) in
    all-count (plant d) p ss q (λ s m. set-count d p es s q z (sort_in set_before s (by_first es) m)
    (λ t f. plant-count d (p ++ label_of s) t f q))
    ∙ count_map (λ e. entry (p ++ e.name) e.score) q (flat ss)
    ∙ count-concat-sort (λ s. s) (λ e. q (entry (p ++ e.name) e.score)) set_before (by_first es)
    ∙ ap (count (λ e. q (entry (p ++ e.name) e.score))) (by_first_flat es)
    ∙ sym (count_map (λ e. entry (p ++ e.name) e.score) q es)

-- where an entry of a forest comes from
pub record From (p : List ℕ) (s : List Entry) (e : Entry) : Type 0 where
  pub of : Entry
  pub in_set : of ∈ s
  pub eq : e ≡ entry (p ++ of.name) of.score

pub prefixed_from : (p : List ℕ) (s : List Entry) (e : Entry) → e ∈ prefixed p s → From p s e
prefixed_from p s e m = let r = map_in (λ f. entry (p ++ f.name) f.score) e s m in
    record { of = r.0; in_set = r.1; eq = r.2 }

own_from : (d : ℕ) (p : List ℕ) (es s : List Entry) (e : Entry) → Fine (suc d) es → s ∈ by_first es
    → e ∈ own_entries p (label_of s) (highest s) (kids_of (plant d) s) → From p s e
own_from d p es s e z m n =
    prefixed_from p s e (in_counted e (prefixed p s)
    (rw (← (set-count d p es s (same_entry e) z m (λ t f. plant-count d (p ++ label_of s) t f (same_entry e))))
    (counted e (own_entries p (label_of s) (highest s) (kids_of (plant d) s)) n)))

all_from : (d : ℕ) (p : List ℕ) (es : List Entry) (ss : List (List Entry)) (e : Entry) → Fine (suc d) es
    → ((s : List Entry) → s ∈ ss → s ∈ by_first es) → e ∈ inside p (plant_all (plant d) ss) → (s : List Entry) × (s ∈ ss)
    × From p s e
all_from d p es [] e z h m = absurd m
all_from d p es (s ∷ ss) e z h m =
    go (append_in e (own_entries p (label_of s) (highest s) (kids_of (plant d) s)) (inside p (plant_all (plant d) ss))
    (rw (inside_cons p (label_of s) (highest s) (kids_of (plant d) s) (plant_all (plant d) ss)) at m))
    (λ n. all_from d p es ss e z (λ t o. h t (inr o)) n)
  where
    go : (e ∈ own_entries p (label_of s) (highest s) (kids_of (plant d) s)) ⊎ (e ∈ inside p (plant_all (plant d) ss))
        → (e ∈ inside p (plant_all (plant d) ss) → (t : List Entry) × (t ∈ ss) × From p t e) → (t : List Entry)
        × (t ∈ (s ∷ ss)) × From p t e
    go (inl n) ih = (s, inl refl, own_from d p es s e z (h s (inl refl)) n)
    go (inr n) ih = let r = ih n in (r.0, inr r.1, r.2)

-- rank behind a path
path_rank : (p a b : List ℕ) (x y : ℕ)
    → outranks (entry (p ++ a) x) (entry (p ++ b) y) ≡ outranks (entry a x) (entry b y)
path_rank p a b x y = rw (below-append p a b)

highest_in : (f : Entry) (s : List Entry) → f ∈ s → f.score ≤ highest s
highest_in f [] m = absurd m
highest_in f (x ∷ s) (inl q) = let z = ap (λ e. e.score) q in omega arith
highest_in f (x ∷ s) (inr m) = let ih = highest_in f s m in omega arith

below-begun : (l r : List ℕ) → below (l ++ r) l ≡ false
below-begun [] r = refl
below-begun (x ∷ l) r = rw (eqb_self x) (below-begun l r)

key_first : (s : List Entry) (f : Entry) → f ∈ s → outranks f (node_entry s) ≡ false
key_first s f m =
    let h = highest_in f s m in
    by_test (eqb f.score (highest s))
    (λ t. rw t (ap (λ w. below w (label_of s)) (label_split s f m)
    ∙ below-begun (label_of s) (drop (length (label_of s)) f.name)))
    (λ t. rw t (le-ltb (highest s) f.score h))

from_key : (p : List ℕ) (s : List Entry) (e : Entry) → From p s e
    → outranks e (entry (p ++ label_of s) (highest s)) ≡ false
from_key p s e r = rw r.eq (path_rank p r.of.name (label_of s) r.of.score (highest s)
    ∙ key_first s r.of r.in_set)

-- the sets in the order of the siblings: no later key outranks an earlier, and first bytes differ
abbrev pub Placed : List (List Entry) → Type 0
Placed [] = Unit {0}
Placed (s ∷ ss) = ((t : List Entry) → t ∈ ss → outranks (node_entry t) (node_entry s) ≡ false)
    × ((t : List Entry) → t ∈ ss → set_key s ≡ set_key t → ⊥) × Placed ss

abbrev Distinct : List (List Entry) → Type 0
Distinct [] = Unit {0}
Distinct (s ∷ ss) = ((t : List Entry) → t ∈ ss → set_key s ≡ set_key t → ⊥) × Distinct ss

ordered_distinct : (ss : List (List Entry)) → Ordered ss → Distinct ss
ordered_distinct [] o = tt
ordered_distinct (s ∷ ss) o = ((λ t m q. let a = o.0 t m in omega arith), ordered_distinct ss o.1)

distinct_insert : (r : List Entry → List Entry → Bool) (x : List Entry) (ys : List (List Entry)) → Distinct ys
    → ((t : List Entry) → t ∈ ys → set_key x ≡ set_key t → ⊥) → Distinct (insert_by r x ys)
distinct_insert r x [] d h = ((λ t m. absurd m), tt)
distinct_insert r x (y ∷ ys) d h =
    let ih = distinct_insert r x ys d.1 (λ t m. h t (inr m)) in
    by_test (r y x) (λ t. rw t ((λ u m. other u (insert_in r u x ys m)), ih)) (λ t. rw t (h, d))
  where
    other : (u : List Entry) → u ∈ (x ∷ ys) → set_key y ≡ set_key u → ⊥
    other u (inl q) e = h y (inl refl) (sym (e ∙ ap set_key q))
    other u (inr m) e = d.0 u m e

distinct_sort : (r : List Entry → List Entry → Bool) (ss : List (List Entry)) → Distinct ss → Distinct (sort_by r ss)
distinct_sort r [] d = tt
distinct_sort r (s ∷ ss) d = distinct_insert r s (sort_by r ss) (distinct_sort r ss d.1)
    (λ t m. d.0 t (sort_in r t ss m))

placed : (ss : List (List Entry)) → sorted outranks (map node_entry ss) → Distinct ss → Placed ss
placed [] r d = tt
placed (s ∷ ss) r d = ((λ t m. r.0 (node_entry t) (in_map node_entry t ss m)), d.0, placed ss r.1 d.1)

pub sets-placed : (es : List Entry) → rising es ≡ true → Placed (sort_by set_before (by_first es))
sets-placed es r =
    placed (sort_by set_before (by_first es))
    (rw (sort-map node_entry outranks (by_first es)) (rank_sorted (map node_entry (by_first es))))
    (distinct_sort set_before (by_first es) (ordered_distinct (by_first es) (by_first_ordered es r)))

-- sets lie apart
pub begins-key : (l w : List ℕ) → begins l w ≡ true → 0 < length l → key l ≡ key w
begins-key [] w h n = absurd (not-suc-le-zero n)
begins-key (x ∷ l) [] h n = absurd (false≢true h)
begins-key (x ∷ l) (y ∷ w) h n = ap suc (eqb-true x y (and_true_both (eqb x y) (begins l w) h).0)

cross : (b : List Entry → Forest) (p : List ℕ) (es t s : List Entry) (e : Entry) → rising es ≡ true → t ∈ by_first es
    → s ∈ by_first es → (set_key t ≡ set_key s → ⊥) → From p s e → begins (p ++ label_of t) e.name ≡ true
    → kids_of b t ≡ none
cross b p es t s e r mt ms ne f h =
    by_test (used_up (length (label_of t)) t) (λ u. kids_none b t u)
    (λ u.
    let n = label_progress t (by_first-run es t mt) (different-rising t (set-rising es t r mt)) u in
    let g : begins (label_of t) f.of.name ≡ true = sym (begins_behind p (label_of t) f.of.name)
    ∙ rw (ap (λ x. x.name) f.eq) at h in
    absurd (ne (sym (label_key t (by_first-run es t mt)) ∙ begins-key (label_of t) f.of.name g n
    ∙ run-key s (by_first-run es s ms) f.of f.in_set)))

-- the score of the best
first_high_lem : (s : List Entry) (ss : List (List Entry)) → Placed (s ∷ ss) → highest (flat (s ∷ ss)) ≡ highest s
first_high_lem s ss z =
    let a = highest_flat (highest s) ss (λ t m. outranks_false (node_entry t) (node_entry s) (z.0 t m)) in
    let b = highest-append s (flat ss) in
    omega arith

sorted_high : (es : List Entry) → highest (flat (sort_by set_before (by_first es))) ≡ highest es
sorted_high es = highest-sort set_before (by_first es) ∙ ap highest (by_first_flat es)

top-all : (d : ℕ) (p : List ℕ) (es s : List Entry) (ss : List (List Entry)) → Fine (suc d) es → s ∈ by_first es
    → ((q : List ℕ) (t : List Entry) → Fine d t → (plant d t ≡ none → ⊥) → (top q (plant d t)).score ≡ highest t)
    → (top p (tree (label_of s) (highest s) (kids_of (plant d) s) (plant_all (plant d) ss))).score ≡ highest s
top-all d p es s ss z m ih =
    by_test (used_up (length (label_of s)) s)
    (λ t. rw (kids_none (plant d) s t))
    (λ t.
    let f = set_fine d es s z m t in
    let n = remains_planted d s (by_first-run es s m) f in
    rw (kids_some (plant d) s t) (top_inner (plant d (remains (length (label_of s)) s)) n
    ∙ ih (p ++ label_of s) (remains (length (label_of s)) s) f n ∙ highest-remains (length (label_of s)) s))
  where
    top_inner : (k : Forest) → (k ≡ none → ⊥)
        → (top p (tree (label_of s) (highest s) k (plant_all (plant d) ss))).score ≡ (top (p ++ label_of s) k).score
    top_inner none h = absurd (h refl)
    top_inner (tree a b c e) h = refl

top_sorted : (d : ℕ) (p : List ℕ) (es : List Entry) (ss : List (List Entry)) → Fine (suc d) es
    → ((s : List Entry) → s ∈ ss → s ∈ by_first es) → Placed ss → highest (flat ss) ≡ highest es
    → (plant_all (plant d) ss ≡ none → ⊥)
    → ((q : List ℕ) (t : List Entry) → Fine d t → (plant d t ≡ none → ⊥) → (top q (plant d t)).score ≡ highest t)
    → (top p (plant_all (plant d) ss)).score ≡ highest es
top_sorted d p es [] z h l e n ih = absurd (n refl)
top_sorted d p es (s ∷ ss) z h l e n ih = top-all d p es s ss z (h s (inl refl)) ih ∙ sym (first_high_lem s ss l) ∙ e

pub top_score : (d : ℕ) (p : List ℕ) (es : List Entry) → Fine d es → (plant d es ≡ none → ⊥)
    → (top p (plant d es)).score ≡ highest es
top_score zero p es z n = absurd (n refl)
top_score (suc d) p es z n =
    top_sorted d p es (sort_by set_before (by_first es)) z (λ s m. sort_in set_before s (by_first es) m)
    (sets-placed es z.rises) (sorted_high es) n (λ q t f k. top_score d q t f k)

-- a planted forest is what the search needs
clear_next : (d : ℕ) (p : List ℕ) (es s : List Entry) (ts : List (List Entry)) → Fine (suc d) es → s ∈ by_first es
    → ((t : List Entry) → t ∈ ts → t ∈ by_first es) → ((t : List Entry) → t ∈ ts → set_key s ≡ set_key t → ⊥)
    → Clear p (plant_all (plant d) ts) (own_entries p (label_of s) (highest s) (kids_of (plant d) s))
clear_next d p es s [] z m h k = tt
clear_next d p es s (t ∷ ts) z m h k = (
  (λ e n b. cross (plant d) p es t s e z.rises (h t (inl refl)) m (λ q. k t (inl refl) (sym q))
      (own_from d p es s e z m n) b),
  clear_next d p es s ts z m (λ u n. h u (inr n)) (λ u n. k u (inr n)),
)

same_rest : (p a b : List ℕ) → p ++ a ≡ p ++ b → a ≡ b
same_rest p a b q = sym (drop-append_seam p a) ∙ ap (drop (length p)) q ∙ drop-append_seam p b

apart_names : (p : List ℕ) (es s t : List Entry) (e g : Entry) → s ∈ by_first es → t ∈ by_first es
    → (set_key s ≡ set_key t → ⊥) → From p s e → From p t g → e.name ≡ g.name → ⊥
apart_names p es s t e g ms mt ne x y q =
    let a : p ++ x.of.name ≡ p ++ y.of.name = sym (ap (λ w. w.name) x.eq) ∙ q ∙ ap (λ w. w.name) y.eq in
    ne (sym (run-key s (by_first-run es s ms) x.of x.in_set) ∙ ap key (same_rest p x.of.name y.of.name a)
    ∙ run-key t (by_first-run es t mt) y.of y.in_set)

proper_sets : (d : ℕ) (p : List ℕ) (es : List Entry) (ss : List (List Entry)) → Fine (suc d) es
    → ((s : List Entry) → s ∈ ss → s ∈ by_first es) → Placed ss
    → ((q : List ℕ) (t : List Entry) → Fine d t → Proper q (plant d t)) → Proper p (plant_all (plant d) ss)
proper_sets d p es [] z h l ih = tt
proper_sets d p es (s ∷ ss) z h l ih = (
  (λ e m. lead e (all_from d p es (s ∷ ss) e z h m)),
  top-all d p es s ss z (h s (inl refl)) (λ q t f k. top_score d q t f k),
  (
    (λ e m b. let r = all_from d p es ss e z (λ u n. h u (inr n)) m in
        cross (plant d) p es s r.0 e z.rises (h s (inl refl)) (h r.0 (inr r.1)) (l.1 r.0 r.1) r.2
        b),
    tt,
  ),
  clear_next d p es s ss z (h s (inl refl)) (λ u n. h u (inr n)) l.1,
  (λ e g m n. let r = all_from d p es ss g z (λ u o. h u (inr o)) n in
      apart_names p es s r.0 e g (h s (inl refl)) (h r.0 (inr r.1)) (l.1 r.0 r.1)
      (own_from d p es s e z (h s (inl refl)) m) r.2),
  by_test (used_up (length (label_of s)) s) (λ t. rw (kids_none (plant d) s t) tt)
      (λ t. rw (kids_some (plant d) s t) (ih (p
      ++ label_of s) (remains (length (label_of s)) s) (set_fine d es s z (h s (inl refl)) t))),
  proper_sets d p es ss z (λ u n. h u (inr n)) l.2 ih,
  next_later ss l.0,
)
  where
    next_later : (ts : List (List Entry)) → ((t : List Entry) → t ∈ ts → outranks (node_entry t) (node_entry s) ≡ false)
        → (v : WaitingForest) → v ∈ front_waits p (plant_all (plant d) ts)
        → outranks (known v) (entry (p ++ label_of s) (highest s)) ≡ false
    next_later [] k v m = absurd m
    next_later (t ∷ ts) k v (inl q) = rw q (path_rank p (label_of t) (label_of s) (highest t) (highest s)
        ∙ k t (inl refl))
    next_later (t ∷ ts) k v (inr m) = absurd m

    lead : (e : Entry) → (t : List Entry) × (t ∈ (s ∷ ss)) × From p t e
        → outranks e (entry (p ++ label_of s) (highest s)) ≡ false
    lead e r = go r.0 r.1 r.2
      where
        go : (t : List Entry) → t ∈ (s ∷ ss) → From p t e → outranks e (entry (p ++ label_of s) (highest s)) ≡ false
        go t (inl q) f = from_key p s e (rw q at f)
        go t (inr m) f = not_outranks_trans e (entry (p ++ label_of t) (highest t)) (entry (p
            ++ label_of s) (highest s)) (from_key p t e f) (path_rank p (label_of t) (label_of s) (highest t) (highest s)
            ∙ l.0 t m)

pub plant_proper : (d : ℕ) (p : List ℕ) (es : List Entry) → Fine d es → Proper p (plant d es)
plant_proper zero p es z = tt
plant_proper (suc d) p es z = proper_sets d p es (sort_by set_before (by_first es)) z
    (λ s m. sort_in set_before s (by_first es) m) (sets-placed es z.rises) (λ q t f. plant_proper d q t f)

-- the search in the forest of a book offers its best k
pub prefixed-none : (es : List Entry) → prefixed [] es ≡ es
prefixed-none [] = refl
prefixed-none (e ∷ es) = ap (λ l. e ∷ l) (prefixed-none es)

plant_offers : (es : List Entry) (k : ℕ) → Fine levels es
    → search_offers k (front_waits [] (plant levels es)) ≡ take k (by_rank es)
plant_offers es k z =
    forest_offers [] (plant levels es) k (plant_proper levels [] es z)
    ∙ ap (take k) (rank_same (inside [] (plant levels es)) es (λ q. plant-count levels [] es z q
    ∙ ap (count q) (prefixed-none es)))

keep_every : (es : List Entry) → matches [] es ≡ es
keep_every [] = refl
keep_every (e ∷ es) = ap (λ l. e ∷ l) (keep_every es)

pub book_offers : (es : List Entry) (k : ℕ) → valid es ≡ true
    → search_offers k (front_waits [] (plant levels es)) ≡ completion es [] k
unfolding completion
book_offers es k h =
    let v = valid_of es h in
    plant_offers es k (record {
      short = λ e m. let n = name_length e.name
          (all_in (λ f. is_name f.name) e es v.allowed m) in omega arith;
      rises = v.order;
    })
    ∙ ap (λ x. take k (by_rank x)) (sym (keep_every es))

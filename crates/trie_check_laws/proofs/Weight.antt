-- A group is no longer than ten bytes for each byte of its suffixes and nine for each suffix.
use Prim.Native.Nat.{◌*◌, ◌+◌, ◌-◌, ◌<◌, ◌≤◌, suc, zero, ℕ}
use mathlib.Core.Path.{◌∙◌, ◌≡◌, ap, refl, sym}
use mathlib.Core.Logic.{◌⊎◌, inl, inr}
use mathlib.Core.Bool.{Bool, true}
use mathlib.Core.List.{List, [], ◌++◌, ◌∷◌}
use lib.Dec.{eqb}
use lib.ListN.{length, length-append}
use native.Mathlib.Omega.{arith}
use Rattle.octets.proofs.Tests.{by_test}
use Rattle.octets.specs.Lists.{◌∈◌}
use Rattle.entries.specs.Entries.{Entry}
use Rattle.trie.proofs.Sets.{by_first_flat, flat}
use Rattle.trie.proofs.Trie.{node_label, node_size, nodes, siblings_inner, siblings_leaf, unders}
use Rattle.trie.specs.Reading.{prefixed}
use Rattle.trie.specs.Trie.{Node, by_first, first_score, group_bytes, group_of, highest, is_last, is_leaf, label_of, node_bytes}
use Rattle.trie.specs.Trie.{node_of, other_bytes, own_size, siblings, size_of}
use Rattle.trie_group_laws.proofs.Groups.{scatter, scattered, scattered_nodes, sum_sort}
use Rattle.entries_laws.specs.Signs.{half_after, no_half}
use Rattle.trie_group_laws.proofs.Made.{Made, Suffixes, highest_more, inner, inner_facts, leaf, leaf_facts, length_more}
use Rattle.trie_check_laws.proofs.Written.{inner_under, leaf_under}
use Rattle.trie.proofs.Header.{own_size_most, size_of_most}
use Rattle.trie_laws.specs.Keys.{set_before}

abbrev pub weight : List Entry → ℕ
weight [] = 0
weight (e ∷ es) = 10 * length e.name + 9 + weight es

weight_append : (a b : List Entry) → weight (a ++ b) ≡ weight a + weight b
weight_append [] b = omega arith
weight_append (e ∷ a) b = let ih = weight_append a b in omega arith

pub weight_part : (t : List Entry) (ss : List (List Entry)) → t ∈ ss → weight t ≤ weight (flat ss)
weight_part t [] m = absurd m
weight_part t (s ∷ ss) (inl q) = let a = weight_append s (flat ss) in rw q (omega arith)
weight_part t (s ∷ ss) (inr m) = let a = weight_append s (flat ss) in let ih = weight_part t ss m in omega arith

weight_more : (l : List ℕ) (es : List Entry) → weight es ≤ weight (prefixed l es)
weight_more l [] = omega arith
weight_more l (e ∷ es) = let ih = weight_more l es in let a = length-append l e.name in omega arith

weight_label : (l : List ℕ) (es : List Entry) → 0 < length es → weight es + 10 * length l ≤ weight (prefixed l es)
weight_label l [] h = absurd (omega arith)
weight_label l (e ∷ es) h = let ih = weight_more l es in let a = length-append l e.name in omega arith

pub scattered_weight : (es : List Entry) → weight (flat (scattered es)) ≡ weight es
scattered_weight es = sum_sort weight weight_append set_before (by_first es) ∙ ap weight (by_first_flat es)

-- What a set is as a node with d levels below it.
pub record Kid (path half d : ℕ) (t : List Entry) : Type 0 where
  pub es : List Entry
  pub under : (node_of (group_of d 0) t).under ≡ group_of d 0 es
  pub below : Suffixes (path + length (label_of t)) (half_after half (label_of t)) (eqb (length (label_of t)) 7) es
  pub some : 0 < length (label_of t)
  pub top : highest es ≡ highest t
  pub many : length es ≡ length t
  pub light : weight es + 10 * length (label_of t) ≤ weight t

pub record Lone (path half d : ℕ) (t : List Entry) : Type 0 where
  pub under : (node_of (group_of d 0) t).under ≡ []
  pub ends : path ≡ 0 → 0 < length (label_of t)
  pub within : path + length (label_of t) ≤ 48
  pub whole : half_after half (label_of t) ≡ no_half
  pub one : length t ≡ 1
  pub light : 10 * length (label_of t) + 9 ≤ weight t

pub kind : (path half d : ℕ) {l : List ℕ} {v : ℕ} {t : List Entry} → Made path half l v t
    → (Lone path half d t) ⊎ (Kid path half d t)
kind path half d (leaf {l} {v} h) =
    let f = leaf_facts path half l v h in
    inl
    (record {
      under = leaf_under (group_of d 0) l v f.label;
      ends = λ z. rw f.label (h.ends z);
      within = rw f.label h.within;
      whole = rw f.label h.allowed;
      one = refl;
      light = rw f.label (omega arith);
    })
kind path half d (inner {l} {es} h) =
    let f = inner_facts path half l es h in
    inr
    (record {
      es = es;
      under = inner_under (group_of d 0) l es f.label h.below.lone;
      below = rw f.label h.below;
      some = rw f.label h.some;
      top = sym (highest_more l es);
      many = sym (length_more l es);
      light = rw f.label (weight_label l es h.below.some);
    })

-- siblings with what stands under them
siblings_weight :
    (path half d : ℕ) (ss : List (List Entry)) (f b z : ℕ) → z ≤ 4
    → ((t : List Entry) → t ∈ ss → Made path half (label_of t) (highest t) t)
    → ((path' half' : ℕ) (full : Bool) (es : List Entry) → Suffixes path' half' full es
    → length (group_of d 0 es) ≤ weight es)
    → length (siblings f b z (nodes d ss)) + length (unders (nodes d ss)) ≤ weight (flat ss)
siblings_weight path half d [] f b z l made ih = omega arith
siblings_weight path half d (t ∷ ss) f b z l made ih = go (kind path half d (made t (inl refl)))
    (λ f' b' z' y. siblings_weight path half d ss f' b' z' y (λ u m. made u (inr m)) ih)
  where
    x : Node
    x = node_of (group_of d 0) t

    xs : List Node
    xs = nodes d ss

    go : (Lone path half d t) ⊎ (Kid path half d t)
        → ((f' b' z' : ℕ) → z' ≤ 4 → length (siblings f' b' z' xs) + length (unders xs) ≤ weight (flat ss))
        → length (siblings f b z (x ∷ xs)) + length (unders (x ∷ xs)) ≤ weight (flat (t ∷ ss))
    go (inl k) more =
        let lx = ap length k.under in
        let e : is_leaf x ≡ true = rw k.under in
        let a = ap length (siblings_leaf f b z x xs e) in
        let c = length-append (node_bytes x f 0 0 (is_last xs)) (siblings (x.score - first_score xs) b z xs) in
        let g = node_size x f 0 0 (is_last xs) in
        let h = length-append x.under (unders xs) in
        let i = ap length (node_label (group_of d 0) t) in
        let j = k.light in
        let m = more (x.score - first_score xs) b z l in
        let n = size_of_most f in
        let o = weight_append t (flat ss) in
        omega arith
    go (inr k) more =
        let u = ih (path + length (label_of t)) (half_after half (label_of t)) (eqb (length (label_of t)) 7) k.es
        k.below in
        let lx = ap length k.under in
        by_test (is_leaf x)
        (λ e.
        let a = ap length (siblings_leaf f b z x xs e) in
        let c = length-append (node_bytes x f 0 0 (is_last xs)) (siblings (x.score - first_score xs) b z xs) in
        let g = node_size x f 0 0 (is_last xs) in
        let h = length-append x.under (unders xs) in
        let i = ap length (node_label (group_of d 0) t) in
        let j = k.light in
        let s = k.some in
        let m = more (x.score - first_score xs) b z l in
        let n = size_of_most f in
        let o = weight_append t (flat ss) in
        omega arith)
        (λ e.
        let a = ap length (siblings_inner f b z x xs e) in
        let c = length-append (node_bytes x f b z (is_last xs))
        (siblings (x.score - first_score xs) (length x.under) (size_of (length x.under)) xs) in
        let g = node_size x f b z (is_last xs) in
        let h = length-append x.under (unders xs) in
        let i = ap length (node_label (group_of d 0) t) in
        let j = k.light in
        let s = k.some in
        let m = more (x.score - first_score xs) (length x.under) (size_of (length x.under))
        (size_of_most (length x.under)) in
        let n = size_of_most f in
        let o = weight_append t (flat ss) in
        omega arith)

pub group_weight : (d f path half : ℕ) (full : Bool) (es : List Entry) → Suffixes path half full es
    → length (group_of d f es) ≤ weight es
unfolding group_bytes
group_weight zero f path half full es h = omega arith
group_weight (suc d) f path half full es h =
    let xs = nodes d (scattered es) in
    let o = other_bytes f (nodes d (scattered es)) in
    let a = siblings_weight path half d (scattered es) f (o + own_size o) (own_size o) (own_size_most o)
    (scatter path half full es h).made (λ p a b fs k. group_weight d 0 p a b fs k) in
    let c = length-append (siblings f (o + own_size o) (own_size o) (nodes d (scattered es)))
    (unders (nodes d (scattered es))) in
    let w = scattered_weight es in
    rw (scattered_nodes (group_of d 0) es) (omega arith)

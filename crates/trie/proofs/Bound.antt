-- A group is no longer than 16 bytes for each suffix and level.
use Prim.Native.Nat.{◌*◌, ◌+◌, ◌-◌, ◌≤◌, suc, zero, ℕ}
use mathlib.Core.Path.{◌≡◌, refl}
use mathlib.Core.Logic.{inl, inr}
use mathlib.Core.Bool.{Bool, false, true}
use mathlib.Core.List.{List, [], ◌++◌, ◌∷◌, map}
use lib.ListN.{length, length-append, length-map}
use native.Mathlib.Nat.{add-mul, mul-add, mul-suc}
use native.Mathlib.Omega.{arith}
use Rattle.octets.specs.Lists.{◌∈◌, concat_map, if◌then◌otherwise◌, sort_by}
use Rattle.octets.proofs.Count.{count, count-all, count-concat-sort}
use Rattle.octets.proofs.Lists.{map_in, sort_in, sort-length}
use Rattle.octets.proofs.Tests.{by_test}
use Rattle.entries.specs.Entries.{Entry}
use Rattle.trie.specs.Trie.{Node, by_first, first_score, group_bytes, group_of, is_last, is_leaf, join_first, label_of}
use Rattle.trie.specs.Trie.{node_bytes, node_of, other_bytes, own_size, remains, same_first, siblings, size_of}
use Rattle.trie.specs.Trie.{stands_before, used_up}
use Rattle.trie.proofs.Header.{own_size_most, size_of_most}
use Rattle.trie.proofs.Sets.{by_first_flat, flat, label_short, length-remains}
use Rattle.trie.proofs.Trie.{node_inner, node_label, node_leaf, node_size}

-- one node
node_bound : (x : Node) (s c cs : ℕ) (last : Bool) → length x.label ≤ 7 → cs ≤ 4
    → length (node_bytes x s c cs last) ≤ 16
node_bound x s c cs last h k = omega (arith, node_size x s c cs last, size_of_most s)

-- siblings
siblings_bound : (s b z : ℕ) (xs : List Node) → ((x : Node) → x ∈ xs → length x.label ≤ 7) → z ≤ 4
    → length (siblings s b z xs) ≤ 16 * length xs
siblings_bound s b z [] h k = omega arith
siblings_bound s b z (x ∷ xs) h k = go (λ s' b' z' q. siblings_bound s' b' z' xs (λ y m. h y (inr m)) q) (is_leaf x)
  where
    one : ((s' b' z' : ℕ) → z' ≤ 4 → length (siblings s' b' z' xs) ≤ 16 * length xs) → (c cs s' b' z' : ℕ) → cs ≤ 4
        → z' ≤ 4 → length (node_bytes x s c cs (is_last xs) ++ siblings s' b' z' xs) ≤ 16 * suc (length xs)
    one ih c cs s' b' z' p q =
        let e = length-append (node_bytes x s c cs (is_last xs)) (siblings s' b' z' xs) in
        let f = node_bound x s c cs (is_last xs) (h x (inl refl)) p in
        let g = ih s' b' z' q in
        omega (arith, e, f, g)

    go : ((s' b' z' : ℕ) → z' ≤ 4 → length (siblings s' b' z' xs) ≤ 16 * length xs) → (t : Bool)
        → length (node_bytes x s (if t then 0 otherwise b) (if t then 0 otherwise z) (is_last xs)
        ++ siblings (x.score - first_score xs) (if t then b otherwise length x.under)
        (if t then z otherwise size_of (length x.under)) xs) ≤ 16 * suc (length xs)
    go ih true = one ih 0 0 (x.score - first_score xs) b z (omega arith) k
    go ih false = one ih b z (x.score - first_score xs) (length x.under) (size_of (length x.under)) k
        (size_of_most (length x.under))

join_count : (e : Entry) (ss : List (List Entry)) → length (join_first e ss) ≤ suc (length ss)
join_count e [] = omega arith
join_count e ([] ∷ ss) = omega arith
join_count e ((f ∷ fs) ∷ ss) = by_test (same_first e.name f.name) (λ t. rw t (omega arith))
    (λ t. rw t (omega arith))

by_first-count : (es : List Entry) → length (by_first es) ≤ length es
by_first-count [] = omega arith
by_first-count (e ∷ es) = let a = join_count e (by_first es) in let b = by_first-count es in omega arith

unders_bound : (b : ℕ) (f : List Entry → Node) (ss : List (List Entry))
    → ((s : List Entry) → s ∈ ss → length (f s).under ≤ b * length s)
    → length (concat_map (λ (x : Node). x.under) (map f ss)) ≤ b * length (flat ss)
unders_bound b f [] h = omega arith
unders_bound b f (s ∷ ss) h =
    let a = h s (inl refl) in
    let c = unders_bound b f ss (λ t m. h t (inr m)) in
    let d = length-append (f s).under (concat_map (λ (x : Node). x.under) (map f ss)) in
    let e = length-append s (flat ss) in
    let g = mul-add b (length s) (length (flat ss)) in
    rw (d, e, g) (omega (arith, a, c))

under_bound : (k : ℕ) (g : List Entry → List ℕ) (s : List Entry)
    → (length (g (remains (length (label_of s)) s)) ≤ k * length (remains (length (label_of s)) s))
    → length (node_of g s).under ≤ k * length s
under_bound k g s h =
    by_test (used_up (length (label_of s)) s)
    (λ t. rw (node_leaf g s t) (omega arith))
    (λ t. rw (node_inner g s t, ← (length-remains (length (label_of s)) s)) h)

pub group_bound : (k s : ℕ) (es : List Entry) → length (group_of k s es) ≤ 16 * k * length es
unfolding group_bytes
group_bound zero s es = omega arith
group_bound (suc k) s es =
    let f = node_of (group_of k 0) in
    let xs = sort_by stands_before (map f (by_first es)) in
    let o = other_bytes s xs in
    let a = siblings_bound s (o + own_size o) (own_size o) xs
    (λ x m. short x (map_in f x (by_first es) (sort_in stands_before x (map f (by_first es)) m))) (own_size_most o) in
    let b = sort-length stands_before (map f (by_first es)) in
    let c = length-map (by_first es) f in
    let d = by_first-count es in
    let e : length (concat_map (λ (x : Node). x.under) xs) ≤ 16 * k * length es =
    rw (
      ← (count-all (concat_map (λ (x : Node). x.under) xs)),
      count-concat-sort (λ (x : Node). x.under) (λ x. true) stands_before (map f (by_first es)),
      count-all (concat_map (λ (x : Node). x.under) (map f (by_first es))),
    )
    (rw (by_first_flat es) at (unders_bound (16 * k) f (by_first es)
    (λ t m. under_bound (16 * k) (group_of k 0) t (group_bound k 0 (remains (length (label_of t)) t)))))
    in
    let g = length-append (siblings s (o + own_size o) (own_size o) xs) (concat_map (λ (x : Node). x.under) xs) in
    let h : 16 * suc k * length es ≡ 16 * length es + 16 * k * length es = step (length es) in
    rw (g, h) (omega (arith, a, b, c, d, e))
  where
    short : (x : Node) → (t : List Entry) × (t ∈ by_first es) × (x ≡ node_of (group_of k 0) t) → length x.label ≤ 7
    short x q = let a = label_short q.0 in rw (q.2, node_label) (omega arith)

    step : (n : ℕ) → 16 * suc k * n ≡ 16 * n + 16 * k * n
    step n = rw (mul-suc 16 k, add-mul (16 * k) 16 n) (omega arith)

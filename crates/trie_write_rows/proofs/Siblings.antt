-- The sets of suffixes by first byte, set by set from the last; their order, their labels, how many there are.
use Prim.Native.Nat.{◌<◌, ◌≤◌, min, suc, zero, ℕ}
use mathlib.Core.Path.{◌∙◌, ◌≡◌, ap, refl, sym}
use mathlib.Core.Logic.{◌⊎◌, inl, inr}
use mathlib.Core.Bool.{false, false≢true, true}
use mathlib.Core.List.{List, [], ◌++◌, ◌∷◌}
use lib.Dec.{eqb}
use lib.ListN.{length, length-take, take}
use native.Mathlib.Omega.{arith}
use borrow.Author.Tests.{eq-eqb, eqb-false, eqb-true, le-ltb, ne_eqb}
use Rattle.octets.specs.Lists.{◌∈◌, insert_by, sort_by}
use Rattle.octets.specs.Octets.{below, common}
use Rattle.octets.proofs.Lists.{insert_ext, sort_in}
use Rattle.octets.proofs.Order.{below_asym, below_cases, below_trans}
use Rattle.octets.proofs.Tests.{and_true_both, by_test, eqb_self}
use Rattle.octets.proofs.Coding.{common_most, common_nil}
use Rattle.entries.specs.Entries.{Entry, rising}
use Rattle.entries.proofs.Valid.{rising_tail}
use Rattle.trie.specs.Trie.{by_first, common_prefix, highest, label_of, same_first}
use Rattle.trie_laws.proofs.Keys.{Ordered, first_head, join_apart, join_same, key_below, label_key}
use Rattle.trie.proofs.Sets.{OneFirst}
use Rattle.trie_write_runs.specs.Runs.{most_runs}
use Rattle.trie_write_rows.specs.Rows.{Chain, higher, keys_from}
use Rattle.trie_laws.specs.Keys.{KeyIn, keys_behind, set_before, set_key}

-- a chain of suffixes in front of others that begin otherwise is a set of its own
abbrev pub last_entry : Entry → List Entry → Entry
last_entry x [] = x
last_entry x (y ∷ ys) = last_entry y ys

pub chain_set : (x : Entry) (xs ys : List Entry) → Chain (x ∷ xs)
    → ((f : Entry) (fs : List Entry) → ys ≡ f ∷ fs → same_first (last_entry x xs).name f.name ≡ false)
    → by_first ((x ∷ xs) ++ ys) ≡ (x ∷ xs) ∷ by_first ys
chain_set x [] [] c e = refl
chain_set x [] (f ∷ fs) c e = let h = first_head f fs in rw h.eq (join_apart x f h.more h.others (e f fs refl))
chain_set x (y ∷ xs) ys c e = rw (chain_set y xs ys c.1 e) (join_same x y xs (by_first ys) c.0)

-- siblings by score alone
before-higher : (x y : List Entry) → below (label_of y) (label_of x) ≡ false → set_before y x ≡ higher y x
before-higher x y h =
    by_test (eqb (highest y) (highest x))
    (λ t. rw t (h ∙ sym (le-ltb (highest x) (highest y) (let q = eqb-true (highest y) (highest x) t in omega arith))))
    (λ t. rw t)

pub sort-higher : (ss : List (List Entry)) → Ordered ss → ((s : List Entry) → s ∈ ss → OneFirst s)
    → sort_by set_before ss ≡ sort_by higher ss
sort-higher [] o r = refl
sort-higher (s ∷ ss) o r =
    ap (insert_by set_before s) (sort-higher ss o.1 (λ t m. r t (inr m)))
    ∙ insert_ext set_before higher s (sort_by higher ss)
    (λ y m.
    let n = sort_in higher y ss m in
    before-higher s y (below_asym (label_of s) (label_of y)
    (key_below (label_of s) (label_of y) (let a = o.0 y n in let b = label_key s (r s (inl refl)) in
    let c = label_key y (r y (inr n)) in omega arith))))

-- there are no more sets than keys
keys_fall : (k l : ℕ) (rs : List (ℕ × ℕ)) → k ≤ l → keys_from l rs ≤ keys_from k rs
keys_fall k l [] e = omega arith
keys_fall k l (r ∷ rs) e = let ih = keys_fall k l rs e in omega arith

key_counts : (k : ℕ) (rs : List (ℕ × ℕ)) → KeyIn k rs → keys_from (suc k) rs < keys_from k rs
key_counts k [] m = absurd m
key_counts k (r ∷ rs) (inl m) = let ih = keys_fall k (suc k) rs (omega arith) in omega (arith, m.0, m.1)
key_counts k (r ∷ rs) (inr m) = let ih = key_counts k rs m in omega arith

abbrev pub Keyed : List (ℕ × ℕ) → List (List Entry) → Type 0
Keyed rs ss = (s : List Entry) → s ∈ ss → KeyIn (set_key s) rs

count_from_lem : (rs : List (ℕ × ℕ)) (s : List Entry) (ss : List (List Entry)) → Ordered (s ∷ ss) → Keyed rs (s ∷ ss)
    → length (s ∷ ss) ≤ keys_from (set_key s) rs
count_from_lem rs s [] o k = let a = key_counts (set_key s) rs (k s (inl refl)) in omega arith
count_from_lem rs s (t ∷ ss) o k =
    let a = key_counts (set_key s) rs (k s (inl refl)) in
    let b = keys_fall (suc (set_key s)) (set_key t) rs (o.0 t (inl refl)) in
    let ih = count_from_lem rs t ss o.1 (λ u m. k u (inr m)) in
    omega arith

pub count_few : (rs : List (ℕ × ℕ)) (ss : List (List Entry)) → Ordered ss → Keyed rs ss → length ss ≤ keys_from 0 rs
count_few rs [] o k = omega arith
count_few rs (s ∷ ss) o k = let a = count_from_lem rs s ss o k in let b = keys_fall 0 (set_key s) rs (omega arith) in
    omega arith

pub keys_few : (h : ℕ) → keys_from 0 (keys_behind h) ≤ most_runs
keys_few zero = omega arith
keys_few (suc zero) = omega arith
keys_few (suc (suc h)) = omega arith

-- the label of a rising set: what its first and its last have in common
abbrev AtMost : List ℕ → List ℕ → Type 0
AtMost u v = (below u v ≡ true) ⊎ (u ≡ v)

most_head : (x y : ℕ) (u v : List ℕ) → AtMost (x ∷ u) (y ∷ v) → x ≤ y
most_head x y u v (inl h) = go (below_cases x y u v h)
  where
    go : (x < y) ⊎ ((x ≡ y) × (below u v ≡ true)) → x ≤ y
    go (inl a) = omega arith
    go (inr a) = omega (arith, a.0)
most_head x y u v (inr h) = let e : x ≡ y = cc in omega arith

most_tail : (x y : ℕ) (u v : List ℕ) → AtMost (x ∷ u) (y ∷ v) → x ≡ y → AtMost u v
most_tail x y u v (inl h) e = go (below_cases x y u v h)
  where
    go : (x < y) ⊎ ((x ≡ y) × (below u v ≡ true)) → AtMost u v
    go (inl a) = absurd (omega arith)
    go (inr a) = inl a.1
most_tail x y u v (inr h) e = inr (cc)

most_nil : {G : Type 0} (x : ℕ) (u : List ℕ) → AtMost (x ∷ u) [] → G
most_nil x u (inl h) = absurd (false≢true h)
most_nil x u (inr h) = absurd (let z : ◌≡◌ {A = ℕ} 0 1 = cc in omega arith)

most_trans : (u v w : List ℕ) → AtMost u v → AtMost v w → AtMost u w
most_trans u v w (inl a) (inl b) = inl (below_trans u v w a b)
most_trans u v w (inl a) (inr b) = inl (rw b at a)
most_trans u v w (inr a) b = rw a b

abbrev lcp : List ℕ → List ℕ → List ℕ
lcp u v = take (common u v) u

lcp_cons : (x y : ℕ) (u v : List ℕ) → eqb x y ≡ true → lcp (x ∷ u) (y ∷ v) ≡ x ∷ lcp u v
lcp_cons x y u v t = rw t

lcp-none : (x y : ℕ) (u v : List ℕ) → eqb x y ≡ false → lcp (x ∷ u) (y ∷ v) ≡ []
lcp-none x y u v t = rw t

lcp_three : (e f l : List ℕ) → AtMost e f → AtMost f l → lcp (lcp f l) e ≡ lcp e l
lcp_three [] f l h k = rw (common_nil (lcp f l))
lcp_three (x ∷ e) [] l h k = most_nil x e h
lcp_three (x ∷ e) (y ∷ f) [] h k = most_nil y f k
lcp_three (x ∷ e) (y ∷ f) (z ∷ l) h k =
    let a = most_head x y e f h in
    let b = most_head y z f l k in
    by_test (eqb y z)
    (λ t.
    let yz : y ≡ z = eqb-true y z t in
    by_test (eqb y x)
    (λ u.
    let yx : y ≡ x = eqb-true y x u in
    rw (
      lcp_cons y z f l t,
      lcp_cons y x (lcp f l) e u,
      lcp_cons x z e l (eq-eqb x z (sym yx ∙ yz)),
      lcp_three e f l (most_tail x y e f h (sym yx)) (most_tail y z f l k yz),
      yx,
    ))
    (λ u.
    let yx : y ≡ x → ⊥ = eqb-false y x u in
    rw (lcp_cons y z f l t, lcp-none y x (lcp f l) e u, lcp-none x z e l (ne_eqb x z (λ q. yx (yz ∙ sym q))))))
    (λ t.
    let yz : y ≡ z → ⊥ = eqb-false y z t in
    rw (lcp-none y z f l t, lcp-none x z e l (ne_eqb x z (λ q. yz (omega arith)))))

-- the last of a rising list is above the others
rising_last : (e : Entry) (es : List Entry) → rising (e ∷ es) ≡ true → AtMost e.name (last_entry e es).name
rising_last e [] r = inr refl
rising_last e (f ∷ es) r =
    most_trans e.name f.name (last_entry f es).name
    (inl (and_true_both (below e.name f.name) (rising (f ∷ es)) r).0) (rising_last f es (rising_tail e (f ∷ es) r))

common_self : (w : List ℕ) → lcp w w ≡ w
common_self [] = refl
common_self (x ∷ w) = lcp_cons x x w w (eqb_self x) ∙ ap (λ l. x ∷ l) (common_self w)

prefix_ends : (e : Entry) (es : List Entry) → rising (e ∷ es) ≡ true
    → common_prefix (e ∷ es) ≡ take (common e.name (last_entry e es).name) e.name
prefix_ends e [] r = sym (common_self e.name)
prefix_ends e (f ∷ es) r =
    rw (prefix_ends f es (rising_tail e (f ∷ es) r))
    (lcp_three e.name f.name (last_entry f es).name
    (inl (and_true_both (below e.name f.name) (rising (f ∷ es)) r).0) (rising_last f es (rising_tail e (f ∷ es) r)))

pub label_ends : (e : Entry) (es : List Entry) → rising (e ∷ es) ≡ true
    → length (label_of (e ∷ es)) ≡ min 7 (common e.name (last_entry e es).name)
label_ends e es r =
    let c = common e.name (last_entry e es).name in
    let a = common_most e.name (last_entry e es).name in
    let b = length-take c e.name in
    let d = length-take 7 (take c e.name) in
    rw (prefix_ends e es r) (omega arith)

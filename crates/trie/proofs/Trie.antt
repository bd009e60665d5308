-- A trie read back gives the entries that it was written from.
use Prim.Native.Nat.{◌+◌, ◌-◌, ◌<◌, ◌^◌, ◌≤◌, max, suc, zero, ℕ}
use mathlib.Core.Path.{◌∙◌, ◌≡◌, ap, refl, sym}
use mathlib.Core.Logic.{inl, inr}
use mathlib.Core.Bool.{Bool, false, false≢true, not, true}
use mathlib.Core.List.{List, [], ◌++◌, ◌∷◌, append_assoc, append-nil, map}
use lib.Dec.{eqb}
use lib.ListN.{drop, length, length-append, length-map}
use lib.Seq.{drop-append_seam, drop_at, take-append_seam, take_at}
use native.Mathlib.Omega.{arith}
use borrow.Author.Tests.{ltb-true, ne_eqb}
use Rattle.octets.specs.Lists.{◌∈◌, concat_map, if◌then◌otherwise◌, insert_by, sort_by}
use Rattle.octets.specs.Octets.{be}
use Rattle.octets.proofs.Coding.{from_be-be, length-be}
use Rattle.octets.proofs.Count.{count, count-concat_ext, count-concat-sort, count_ext, count_map}
use Rattle.octets.proofs.Lists.{all_in, in_map, map_in, map-map, sort_in, sort-length, sort-map}
use Rattle.octets.proofs.Tests.{by_test}
use Rattle.entries.specs.Completion.{different, falling}
use Rattle.entries.specs.Entries.{Entry, at, entry, name_below, outranks}
use Rattle.entries.specs.Names.{is_name, is_score}
use Rattle.entries.proofs.BestList.{different-rising, falling_head, falling-sort}
use Rattle.entries.proofs.Same.{entry_eq, sort_to}
use Rattle.entries.proofs.Valid.{Valid, name_length}
use Rattle.frame.specs.Frame.{Exact, framed}
use Rattle.frame.proofs.Frame.{exact, framed_body, framed-count}
use Rattle.trie.specs.Reading.{FoundSuffixes, Sibling, behind_sibling, child_size, found_under, group_from, last_mark}
use Rattle.trie.specs.Reading.{one_more, prefixed, read_trie, score_from, score_size, sibling_of, siblings_from}
use Rattle.trie.specs.Reading.{trie_entries}
use Rattle.trie.specs.Trie.{Node, by_first, first_score, group_bytes, group_of, header_byte, highest, is_last, is_leaf}
use Rattle.trie.specs.Trie.{join_first, label_of, levels, node_bytes, node_of, other_bytes, own_size, remains}
use Rattle.trie.specs.Trie.{same_first, siblings, size_of, stands_before, trie_image, used_up}
use Rattle.trie.proofs.Header.{Size, header_child, header_label, header_last, header_score, own_size_nonzero}
use Rattle.trie.proofs.Header.{own_size_size, size_of_fits, size_of_nonzero, size_of_size}
use Rattle.trie.proofs.Sets.{OneFirst, by_first_flat, by_first-run, different_flat, different-remains, flat}
use Rattle.trie.proofs.Sets.{highest-below, highest-remains, in_flat, label_progress, label_short, label_split}
use Rattle.trie.proofs.Sets.{length-remains, one_first, stripped, used_up_lem}

-- one node read back
abbrev to_sibling : Node → Sibling
to_sibling x = record { label = x.label; score = x.score; inner = not (is_leaf x) }

pub node_split : (x : Node) (s c cs : ℕ) (last : Bool) (r : List ℕ) → node_bytes x s c cs last
    ++ r ≡ header_byte (size_of s) cs last (length x.label) ∷ (be (size_of s) s ++ (be cs c ++ (x.label ++ r)))
unfolding node_bytes
node_split x s c cs last r = simp append_assoc

module _ (x : Node) (s c cs : ℕ) (last : Bool) (r : List ℕ) (z : Size cs) (l : length x.label < 8) where
  abbrev hd : ℕ
  hd = header_byte (size_of s) cs last (length x.label)

  abbrev tl : List ℕ
  tl = be (size_of s) s ++ (be cs c ++ (x.label ++ r))

  to_label : drop (child_size hd) (drop (score_size hd) tl) ≡ x.label ++ r
  to_label =
      rw (
        header_child (size_of s) cs last (length x.label) (size_of_size s) z l,
        header_score (size_of s) cs last (length x.label) (size_of_size s) z l,
        drop_at (be (size_of s) s) (be cs c ++ (x.label ++ r)) (size_of s) (length-be (size_of s) s),
        drop_at (be cs c) (x.label ++ r) cs (length-be cs c),
      )

  behind_of_lem : behind_sibling hd tl ≡ r
  unfolding behind_sibling
  behind_of_lem =
      rw (
        to_label,
        header_label (size_of s) cs last (length x.label) (size_of_size s) z l,
        drop-append_seam x.label r,
      )

  sibling_of_lem :
      (is_first : Bool) (prev : ℕ) → s < 2 ^ 32 → score_from is_first prev s ≡ x.score → eqb cs 0 ≡ is_leaf x
      → sibling_of is_first prev hd tl ≡ to_sibling x
  unfolding sibling_of
  sibling_of_lem is_first prev fits sc leaf =
      rw (
        to_label,
        header_label (size_of s) cs last (length x.label) (size_of_size s) z l,
        take-append_seam x.label r,
        header_score (size_of s) cs last (length x.label) (size_of_size s) z l,
        header_child (size_of s) cs last (length x.label) (size_of_size s) z l,
        take_at (be (size_of s) s) (be cs c ++ (x.label ++ r)) (size_of s) (length-be (size_of s) s),
        from_be-be (size_of s) s (size_of_fits s fits),
        sc,
        leaf,
      )
      refl

-- the siblings' bytes are the first one's and those of the others
record Step (s back size : ℕ) (x : Node) (xs : List Node) : Type 0 where
  c : ℕ
  cs : ℕ
  back' : ℕ
  size' : ℕ
  eq : siblings s back size (x ∷ xs) ≡ node_bytes x s c cs (is_last xs)
      ++ siblings (x.score - first_score xs) back' size' xs
  z : Size cs
  leaf : eqb cs 0 ≡ is_leaf x
  z' : Size size'
  ne' : eqb size' 0 ≡ false

step : (s back size : ℕ) (x : Node) (xs : List Node) → Size size → eqb size 0 ≡ false → Step s back size x xs
step s back size x xs z ne =
    by_test (is_leaf x)
    (λ t. record {
      c = 0;
      cs = 0;
      back' = back;
      size' = size;
      eq = rw t;
      z = record { back = refl; small = omega arith };
      leaf = sym t;
      z' = z;
      ne' = ne;
    })
    (λ t.
    record {
      c = back;
      cs = size;
      back' = length x.under;
      size' = size_of (length x.under);
      eq = rw t;
      z = z;
      leaf = ne ∙ sym t;
      z' = size_of_size (length x.under);
      ne' = size_of_nonzero (length x.under) t;
    })

pub record GoodNode (x : Node) : Type 0 where
  pub short : length x.label < 8
  pub fits : x.score < 2 ^ 32

abbrev pub to_entry : Node → Entry
to_entry x = entry x.label x.score

from_last :
    (d : ℕ) (is_first : Bool) (prev h : ℕ) (bs : List ℕ) → last_mark h ≡ true
    → siblings_from (suc d) is_first prev (h ∷ bs) ≡ record {
      nodes = sibling_of is_first prev h bs
          ∷ [];
      behind = behind_sibling h bs;
    }
from_last d is_first prev h bs e = rw (e, siblings_from)

from_more :
    (d : ℕ) (is_first : Bool) (prev h : ℕ) (bs : List ℕ) → last_mark h ≡ false
    → siblings_from (suc d) is_first prev (h ∷ bs)
    ≡ one_more (sibling_of is_first prev h bs)
    (siblings_from d false (sibling_of is_first prev h bs).score (behind_sibling h bs))
from_more d is_first prev h bs e = rw (e, siblings_from)

-- reading the first of the siblings
module _
    (d : ℕ) (is_first : Bool) (prev : ℕ) (x : Node) (s c cs : ℕ) (r : List ℕ) (z : Size cs) (g : GoodNode x)
    (fits : s < 2 ^ 32)
    (sc : score_from is_first prev s ≡ x.score) (leaf : eqb cs 0 ≡ is_leaf x)
  where
    head_last : siblings_from (suc d) is_first prev (node_bytes x s c cs true ++ r) ≡ record {
      nodes = to_sibling x
          ∷ [];
      behind = r;
    }
    head_last =
        rw (
          node_split x s c cs true r,
          from_last d is_first prev (hd x s c cs true r z g.short) (tl x s c cs true r z g.short)
              (header_last (size_of s) cs true (length x.label) (size_of_size s) z g.short),
          sibling_of_lem x s c cs true r z g.short is_first prev fits sc leaf,
          behind_of_lem x s c cs true r z g.short,
        )
        refl

    head_more : siblings_from (suc d) is_first prev (node_bytes x s c cs false
        ++ r) ≡ one_more (to_sibling x) (siblings_from d false x.score r)
    head_more =
        rw (
          node_split x s c cs false r,
          from_more d is_first prev (hd x s c cs false r z g.short) (tl x s c cs false r z g.short)
              (header_last (size_of s) cs false (length x.label) (size_of_size s) z g.short),
          sibling_of_lem x s c cs false r z g.short is_first prev fits sc leaf,
          behind_of_lem x s c cs false r z g.short,
        )
        refl

siblings_of :
    (d : ℕ) (x : Node) (xs : List Node) (s back size : ℕ) (is_first : Bool) (prev : ℕ) (r : List ℕ)
    → length xs < d → ((y : Node) → y ∈ (x ∷ xs) → GoodNode y) → falling (map to_entry (x ∷ xs)) → Size size
    → eqb size 0 ≡ false
    → s < 2 ^ 32 → score_from is_first prev s ≡ x.score
    → siblings_from d is_first prev (siblings s back size (x ∷ xs)
    ++ r) ≡ record { nodes = map to_sibling (x ∷ xs); behind = r }
siblings_of zero x xs s back size is_first prev r h g f z ne fits sc = absurd (omega arith)
siblings_of (suc d) x [] s back size is_first prev r h g f z ne fits sc =
    let st = step s back size x [] z ne in
    rw (st.eq, append-nil (node_bytes x s st.c st.cs true))
    (head_last d is_first prev x s st.c st.cs r st.z (g x (inl refl)) fits sc st.leaf)
siblings_of (suc d) x (y ∷ ys) s back size is_first prev r h g f z ne fits sc =
    let st = step s back size x (y ∷ ys) z ne in
    let lower : y.score ≤ x.score = f.0 in
    let high = (g x (inl refl)).fits in
    let ih =
    siblings_of d y ys (x.score - y.score) st.back' st.size' false x.score r (omega arith)
    (λ w m. g w (inr m)) f.1 st.z'
    st.ne' (omega arith) (omega arith)
    in
    rw (
      st.eq,
      append_assoc (node_bytes x s st.c st.cs false) (siblings (x.score - y.score) st.back' st.size' (y
          ∷ ys)) r,
      head_more d is_first prev x s st.c st.cs (siblings (x.score - y.score) st.back' st.size' (y ∷ ys)
          ++ r) st.z (g x (inl refl)) fits sc st.leaf,
      ih,
    )
    refl

abbrev pub sorted_sets : ℕ → List Entry → List (List Entry)
sorted_sets d es = sort_by (λ a b. stands_before (node_of (group_of d 0) a) (node_of (group_of d 0) b)) (by_first es)

-- what a set is found as, where `found` is what its remains are found as
unfoldable found_of : (List Entry → List Entry) → List Entry → List Entry
found_of found s =
    if used_up (length (label_of s)) s then (entry (label_of s) (highest s)
    ∷ []) otherwise prefixed (label_of s) (found (remains (length (label_of s)) s))

abbrev found : ℕ → List Entry → List Entry
found zero es = []
found (suc d) es = concat_map (found_of (found d)) (sorted_sets d es)

-- reading what stands under siblings
under_leaf :
    (g : ℕ → List ℕ → FoundSuffixes) (x : Sibling) (xs : List Sibling) (bs : List ℕ) → x.inner ≡ false
    → found_under g (x ∷ xs) bs ≡ record {
      entries = entry x.label x.score
          ∷ (found_under g xs bs).entries;
      behind = (found_under g xs bs).behind;
    }
under_leaf g x xs bs e = rw (e, found_under)

under_inner :
    (g : ℕ → List ℕ → FoundSuffixes) (x : Sibling) (xs : List Sibling) (bs r : List ℕ) (es : List Entry)
    → x.inner ≡ true
    → g x.score bs ≡ record { entries = es; behind = r }
    → found_under g (x ∷ xs) bs ≡ record {
      entries = prefixed x.label es
          ++ (found_under g xs r).entries;
      behind = (found_under g xs r).behind;
    }
under_inner g x xs bs r es e q = rw (e, found_under) (rw q)

-- a set whose group is read back
record Reads (d : ℕ) (s : List Entry) : Type 0 where
  some : used_up (length (label_of s)) s ≡ false → eqb (length (group_of d 0 (remains (length (label_of s)) s))) 0 ≡ false
  back :
      used_up (length (label_of s)) s ≡ false → (r : List ℕ)
      → group_from d (highest s) (group_of d 0 (remains (length (label_of s)) s)
      ++ r) ≡ record { entries = found d (remains (length (label_of s)) s); behind = r }

pub node_leaf : (b : List Entry → List ℕ) (s : List Entry) → used_up (length (label_of s)) s ≡ true
    → (node_of b s).under ≡ []
unfolding node_of
node_leaf b s t = rw (t, node_of)

pub node_inner : (b : List Entry → List ℕ) (s : List Entry) → used_up (length (label_of s)) s ≡ false
    → (node_of b s).under ≡ b (remains (length (label_of s)) s)
unfolding node_of
node_inner b s t = rw (t, node_of)

pub node_label : (b : List Entry → List ℕ) (s : List Entry) → (node_of b s).label ≡ label_of s
unfolding node_of
node_label b s = refl

pub node_score : (b : List Entry → List ℕ) (s : List Entry) → (node_of b s).score ≡ highest s
unfolding node_of
node_score b s = refl

abbrev pub nodes : ℕ → List (List Entry) → List Node
nodes d ss = map (node_of (group_of d 0)) ss

abbrev pub unders : List Node → List ℕ
unders xs = concat_map (λ x. x.under) xs

under_of :
    (d : ℕ) (ss : List (List Entry)) (r : List ℕ) → ((s : List Entry) → s ∈ ss → Reads d s)
    → found_under (group_from d) (map to_sibling (nodes d ss)) (unders (nodes d ss)
    ++ r) ≡ record { entries = concat_map (found_of (found d)) ss; behind = r }
unfolding found_of
under_of d [] r h = refl
under_of d (s ∷ ss) r h =
    let ih = under_of d ss r (λ t m. h t (inr m)) in
    let x = node_of (group_of d 0) s in
    by_test (used_up (length (label_of s)) s)
    (λ t.
    let u = node_leaf (group_of d 0) s t in
    under_leaf (group_from d) (to_sibling x) (map to_sibling (nodes d ss)) (unders (nodes d (s ∷ ss)) ++ r) (rw u)
    ∙ rw (u, ih, t, node_label, node_score))
    (λ t.
    let u = node_inner (group_of d 0) s t in
    let k = h s (inl refl) in
    under_inner (group_from d) (to_sibling x) (map to_sibling (nodes d ss)) (unders (nodes d (s ∷ ss))
    ++ r) (unders (nodes d ss) ++ r) (found d (remains (length (label_of s)) s))
    (rw (u, k.some t))
    (rw (
      u,
      append_assoc (group_of d 0 (remains (length (label_of s)) s)) (unders (nodes d ss)) r,
      node_score,
    ) (k.back t (unders (nodes d ss) ++ r)))
    ∙ rw (ih, t, node_label))

-- a group of nodes read back
pub node_size : (x : Node) (s c cs : ℕ) (last : Bool)
    → length (node_bytes x s c cs last) ≡ 1 + size_of s + cs + length x.label
unfolding node_bytes
node_size x s c cs last =
    let a = length-append (be (size_of s) s) (be cs c ++ x.label) in
    let b = length-append (be cs c) x.label in
    let e = length-be (size_of s) s in
    let f = length-be cs c in
    omega arith

pub siblings_leaf : (s b z : ℕ) (x : Node) (xs : List Node) → is_leaf x ≡ true
    → siblings s b z (x ∷ xs) ≡ node_bytes x s 0 0 (is_last xs) ++ siblings (x.score - first_score xs) b z xs
siblings_leaf s b z x xs t = rw t

pub siblings_inner :
    (s b z : ℕ) (x : Node) (xs : List Node) → is_leaf x ≡ false
    → siblings s b z (x ∷ xs) ≡ node_bytes x s b z (is_last xs)
    ++ siblings (x.score - first_score xs) (length x.under) (size_of (length x.under)) xs
siblings_inner s b z x xs t = rw t

-- does a node have children?
abbrev pub any_inner : List Node → Bool
any_inner [] = false
any_inner (x ∷ xs) = if is_leaf x then any_inner xs otherwise true

-- the first child field of a group is of `z` bytes, and the others do not depend on it
pub siblings_own : (f b z : ℕ) (xs : List Node) → any_inner xs ≡ true
    → length (siblings f b z xs) ≡ length (siblings f 0 0 xs) + z
siblings_own f b z [] h = absurd (false≢true h)
siblings_own f b z (x ∷ xs) h =
    by_test (is_leaf x)
    (λ t.
    let ih = siblings_own (x.score - first_score xs) b z xs (rw t at h) in
    let a = ap length (siblings_leaf f b z x xs t) in
    let b' = ap length (siblings_leaf f 0 0 x xs t) in
    let c = length-append (node_bytes x f 0 0 (is_last xs)) (siblings (x.score - first_score xs) b z xs) in
    let d = length-append (node_bytes x f 0 0 (is_last xs)) (siblings (x.score - first_score xs) 0 0 xs) in
    omega arith)
    (λ t.
    let r = siblings (x.score - first_score xs) (length x.under) (size_of (length x.under)) xs in
    let a = ap length (siblings_inner f b z x xs t) in
    let b' = ap length (siblings_inner f 0 0 x xs t) in
    let c = length-append (node_bytes x f b z (is_last xs))
    (siblings (x.score - first_score xs) (length x.under) (size_of (length x.under)) xs) in
    let d = length-append (node_bytes x f 0 0 (is_last xs))
    (siblings (x.score - first_score xs) (length x.under) (size_of (length x.under)) xs) in
    let e = node_size x f b z (is_last xs) in
    let g = node_size x f 0 0 (is_last xs) in
    omega arith)

pub siblings-length : (s b z : ℕ) (xs : List Node) → length xs ≤ length (siblings s b z xs)
siblings-length s b z [] = omega arith
siblings-length s b z (x ∷ xs) =
    by_test (is_leaf x)
    (λ t.
    let ih = siblings-length (x.score - first_score xs) b z xs in
    let n = node_size x s 0 0 (is_last xs) in
    rw (
      siblings_leaf s b z x xs t,
      length-append (node_bytes x s 0 0 (is_last xs)) (siblings (x.score - first_score xs) b z xs),
    ) (omega arith))
    (λ t.
    let ih = siblings-length (x.score - first_score xs) (length x.under) (size_of (length x.under)) xs in
    let n = node_size x s b z (is_last xs) in
    rw (
      siblings_inner s b z x xs t,
      length-append (node_bytes x s b z (is_last xs))
          (siblings (x.score - first_score xs) (length x.under) (size_of (length x.under)) xs),
    ) (omega arith))

abbrev pub own_field : ℕ → List Node → ℕ
own_field s xs = own_size (other_bytes s xs)

abbrev pub own_siblings : ℕ → List Node → List ℕ
own_siblings s xs = siblings s (other_bytes s xs + own_field s xs) (own_field s xs) xs

pub group_split : (s : ℕ) (xs : List Node) (r : List ℕ) → group_bytes s xs ++ r ≡ own_siblings s xs ++ (unders xs ++ r)
unfolding group_bytes
group_split s xs r = append_assoc (own_siblings s xs) (unders xs) r

group_nodes :
    (x : Node) (xs : List Node) (s prev : ℕ) (r : List ℕ)
    → ((y : Node) → y ∈ (x ∷ xs) → GoodNode y) → falling (map to_entry (x ∷ xs)) → s < 2 ^ 32 → prev + s ≡ x.score
    → siblings_from (length (group_bytes s (x ∷ xs) ++ r)) true prev (group_bytes s (x ∷ xs) ++ r)
    ≡ record { nodes = map to_sibling (x ∷ xs); behind = unders (x ∷ xs) ++ r }
group_nodes x xs s prev r g f fits sc =
    let o = other_bytes s (x ∷ xs) in
    let long = siblings-length s (o + own_size o) (own_size o) (x ∷ xs) in
    let a = length-append (own_siblings s (x ∷ xs)) (unders (x ∷ xs) ++ r) in
    rw (group_split s (x ∷ xs) r)
    (siblings_of (length (own_siblings s (x ∷ xs)
    ++ (unders (x ∷ xs) ++ r))) x xs s (o + own_size o) (own_size o) true prev (unders (x ∷ xs) ++ r) (omega arith) g f
    (own_size_size o) (own_size_nonzero o) fits sc)

read_group :
    (d : ℕ) (t : List Entry) (ts : List (List Entry)) (s prev : ℕ) (r : List ℕ)
    → ((y : Node) → y ∈ nodes d (t ∷ ts) → GoodNode y) → falling (map to_entry (nodes d (t ∷ ts))) → s < 2 ^ 32
    → prev + s ≡ highest t
    → ((u : List Entry) → u ∈ (t ∷ ts) → Reads d u)
    → group_from (suc d) prev (group_bytes s (nodes d (t ∷ ts))
    ++ r) ≡ record { entries = concat_map (found_of (found d)) (t ∷ ts); behind = r }
read_group d t ts s prev r g f fits sc h =
    let q = group_nodes (node_of (group_of d 0) t) (nodes d ts) s prev r g f fits (rw node_score sc) in
    rw q (under_of d (t ∷ ts) r h)

-- what a set must have to be written and read back with d levels
pub record Fit (d : ℕ) (es : List Entry) : Type 0 where
  pub short : (e : Entry) → e ∈ es → length e.name < d
  pub fits : (e : Entry) → e ∈ es → e.score < 2 ^ 32
  pub apart : different es
  pub some : 0 < length es

-- the sets of a set
pub set_in : (es s : List Entry) (e : Entry) → s ∈ by_first es → e ∈ s → e ∈ es
set_in es s e m n = rw (by_first_flat es) at (in_flat e s (by_first es) n m)

pub set-different : (es s : List Entry) → different es → s ∈ by_first es → different s
set-different es s d m = different_flat s (by_first es) (rw (by_first_flat es) d) m

pub run-some : (s : List Entry) → OneFirst s → 0 < length s
run-some s (one_first e es k) = omega arith

-- what remains of a set behind its label is shorter
pub remains_shorter :
    (d : ℕ) (es s : List Entry) → ((e : Entry) → e ∈ es → length e.name < suc d) → different s → s ∈ by_first es
    → used_up (length (label_of s)) s ≡ false
    → (e : Entry) → e ∈ remains (length (label_of s)) s → length e.name < d
remains_shorter d es s short a m u e n =
    let q = map_in (stripped (length (label_of s))) e s n in
    let p = label_progress s (by_first-run es s m) a u in
    let b = short q.0 (set_in es s q.0 m q.1) in
    let c = ap length (label_split s q.0 q.1) in
    let f = length-append (label_of s) (drop (length (label_of s)) q.0.name) in
    let g = ap (λ x. length x.name) q.2 in
    omega arith

pub set_fit : (d : ℕ) (es s : List Entry) → Fit (suc d) es → s ∈ by_first es → used_up (length (label_of s)) s ≡ false
    → Fit d (remains (length (label_of s)) s)
set_fit d es s h m u =
    let ds = set-different es s h.apart m in
    let r = by_first-run es s m in
    record {
      short = remains_shorter d es s h.short ds m u;
      fits = λ e n. lower (map_in (stripped (length (label_of s))) e s n);
      apart = different-remains (label_of s) s (label_split s) ds;
      some = rw length-remains (run-some s r);
    }
  where
    lower : {e : Entry} → (x : Entry) × (x ∈ s) × (e ≡ stripped (length (label_of s)) x) → e.score < 2 ^ 32
    lower {e} q = let a = h.fits q.0 (set_in es s q.0 m q.1) in let f = ap (λ x. x.score) q.2 in rw f a

join_some : (e : Entry) (ss : List (List Entry)) → 0 < length (join_first e ss)
join_some e [] = omega arith
join_some e ([] ∷ ss) = omega arith
join_some e ((f ∷ fs) ∷ ss) = by_test (same_first e.name f.name) (λ t. rw t (omega arith))
    (λ t. rw t (omega arith))

pub by_first-some : (es : List Entry) → 0 < length es → 0 < length (by_first es)
by_first-some [] h = absurd (omega arith)
by_first-some (e ∷ es) h = join_some e (by_first es)

fit_positive : (es : List Entry) → Fit 0 es → ⊥
fit_positive [] h = let z = h.some in omega arith
fit_positive (e ∷ es) h = let z = h.short e (inl refl) in omega arith

pub group_some : (d : ℕ) (es : List Entry) → Fit d es → eqb (length (group_of d 0 es)) 0 ≡ false
unfolding group_bytes
group_some zero es h = absurd (fit_positive es h)
group_some (suc d) es h =
    let ns = sort_by stands_before (nodes d (by_first es)) in
    let o = other_bytes 0 ns in
    let a = siblings-length 0 (o + own_size o) (own_size o) ns in
    let b = sort-length stands_before (nodes d (by_first es)) in
    let c = length-map (by_first es) (node_of (group_of d 0)) in
    let e = by_first-some es h.some in
    let f = length-append (own_siblings 0 ns) (unders ns) in
    ne_eqb (length (own_siblings 0 ns ++ unders ns)) 0 (λ q. omega arith)

nodes_falling : (d : ℕ) (es : List Entry) → falling (map to_entry (nodes d (sorted_sets d es)))
nodes_falling d es =
    rw (
      map-map (node_of (group_of d 0)) to_entry (sorted_sets d es),
      sort-map (λ s. to_entry (node_of (group_of d 0) s)) outranks (by_first es),
    )
    (falling-sort (map (λ s. to_entry (node_of (group_of d 0) s)) (by_first es)))

pub highest-append : (xs ys : List Entry) → highest (xs ++ ys) ≡ max (highest xs) (highest ys)
highest-append [] ys = omega arith
highest-append (x ∷ xs) ys = let ih = highest-append xs ys in omega arith

pub highest_flat : (b : ℕ) (ss : List (List Entry)) → ((s : List Entry) → s ∈ ss → highest s ≤ b)
    → highest (flat ss) ≤ b
highest_flat b [] h = omega arith
highest_flat b (s ∷ ss) h =
    let a = h s (inl refl) in
    let c = highest_flat b ss (λ t m. h t (inr m)) in
    let e = highest-append s (flat ss) in
    omega arith

highest-insert : (r : List Entry → List Entry → Bool) (s : List Entry) (ss : List (List Entry))
    → highest (flat (insert_by r s ss)) ≡ max (highest s) (highest (flat ss))
highest-insert r s [] = highest-append s []
highest-insert r s (t ∷ ts) =
    let ih = highest-insert r s ts in
    let a = highest-append t (flat (insert_by r s ts)) in
    let b = highest-append t (flat ts) in
    let c = highest-append s (t ++ flat ts) in
    by_test (r t s) (λ q. rw q (omega arith)) (λ q. rw q (omega arith))

pub highest-sort : (r : List Entry → List Entry → Bool) (ss : List (List Entry))
    → highest (flat (sort_by r ss)) ≡ highest (flat ss)
highest-sort r [] = refl
highest-sort r (s ∷ ss) =
    let ih = highest-sort r ss in
    let a = highest-insert r s (sort_by r ss) in
    let b = highest-append s (flat ss) in
    omega arith

-- the first sibling's score is the highest of all
first_highest : (d : ℕ) (t : List Entry) (ts : List (List Entry)) → falling (map to_entry (nodes d (t ∷ ts)))
    → highest (flat (t ∷ ts)) ≡ highest t
first_highest d t ts f =
    let a = highest_flat (highest t) ts each in
    let b = highest-append t (flat ts) in
    omega arith
  where
    each : (s : List Entry) → s ∈ ts → highest s ≤ highest t
    each s m =
        let q = falling_head (to_entry (node_of (group_of d 0) t)) (map to_entry (nodes d ts)) f
        (to_entry (node_of (group_of d 0) s))
        (in_map to_entry (node_of (group_of d 0) s) (nodes d ts) (in_map (node_of (group_of d 0)) s ts m)) in
        let x = node_score (group_of d 0) s in
        let y = node_score (group_of d 0) t in
        omega arith

set_good : (d : ℕ) (es u : List Entry) → Fit (suc d) es → u ∈ by_first es → GoodNode (node_of (group_of d 0) u)
set_good d es u h m =
    record {
      short = rw node_label (label_short u);
      fits = rw node_score (highest-below (2 ^ 32) u (omega arith) (λ e n. h.fits e (set_in es u e m n)));
    }

-- what the recursion gives for a set
abbrev Back : ℕ → List Entry → Type 0
Back d t =
    used_up (length (label_of t)) t ≡ false → (q : List ℕ)
    → group_from d (highest t) (group_of d 0 (remains (length (label_of t)) t)
    ++ q) ≡ record { entries = found d (remains (length (label_of t)) t); behind = q }

sets_group :
    (d : ℕ) (es : List Entry) (s prev : ℕ) (r : List ℕ) → Fit (suc d) es → s < 2 ^ 32 → prev + s ≡ highest es
    → (ss : List (List Entry)) → 0 < length ss → ((t : List Entry) → t ∈ ss → t ∈ by_first es)
    → falling (map to_entry (nodes d ss))
    → highest (flat ss) ≡ highest es → ((t : List Entry) → t ∈ ss → Back d t)
    → group_from (suc d) prev (group_bytes s (nodes d ss)
    ++ r) ≡ record { entries = concat_map (found_of (found d)) ss; behind = r }
sets_group d es s prev r h fits sc [] ne from f top ih = absurd (omega arith)
sets_group d es s prev r h fits sc (t ∷ ts) ne from f top ih =
    read_group d t ts s prev r
    (λ y m. good y (map_in (node_of (group_of d 0)) y (t ∷ ts) m))
    f fits (sc ∙ sym top ∙ first_highest d t ts f)
    (λ u m. record {
      some = λ q. group_some d (remains (length (label_of u)) u) (set_fit d es u h (from u m) q);
      back = ih u m;
    })
  where
    good : (y : Node) → (u : List Entry) × (u ∈ (t ∷ ts)) × (y ≡ node_of (group_of d 0) u) → GoodNode y
    good y q = rw q.2 (set_good d es q.0 h (from q.0 q.1))

-- a group read back
group_of_lem :
    (d : ℕ) (es : List Entry) (s prev : ℕ) (r : List ℕ) → Fit d es → s < 2 ^ 32 → prev + s ≡ highest es
    → group_from d prev (group_of d s es ++ r) ≡ record { entries = found d es; behind = r }
group_of_lem zero es s prev r h fits sc = absurd (fit_positive es h)
group_of_lem (suc d) es s prev r h fits sc =
    let ne = by_first-some es h.some in
    let long = sort-length (λ a b. stands_before (node_of (group_of d 0) a) (node_of (group_of d 0) b)) (by_first es) in
    rw (← sort-map (node_of (group_of d 0)) stands_before (by_first es))
    (sets_group d es s prev r h fits sc (sorted_sets d es) (omega arith)
    (λ t m. sort_in (λ a b. stands_before (node_of (group_of d 0) a) (node_of (group_of d 0) b)) t (by_first es) m)
    (nodes_falling d es)
    (highest-sort (λ a b. stands_before (node_of (group_of d 0) a) (node_of (group_of d 0) b)) (by_first es)
    ∙ ap highest (by_first_flat es))
    (λ t m u q.
    group_of_lem d (remains (length (label_of t)) t) 0 (highest t) q
    (set_fit d es t h (sort_in (λ a b. stands_before (node_of (group_of d 0) a) (node_of (group_of d 0) b)) t (by_first es)
    m) u)
    (omega arith)
    (let z = highest-remains (length (label_of t)) t in omega arith)))

-- what is found is what was written, counted by any test
put_back : (s : List Entry) (e : Entry) → e ∈ s
    → entry (label_of s ++ drop (length (label_of s)) e.name) e.score ≡ e
put_back s e m = entry_eq (entry (label_of s
    ++ drop (length (label_of s)) e.name) e.score) e (sym (label_split s e m)) refl

found_set : (d : ℕ) (q : Entry → Bool) (s : List Entry)
    → (used_up (length (label_of s)) s ≡ false → (p : Entry → Bool)
    → count p (found d (remains (length (label_of s)) s)) ≡ count p (remains (length (label_of s)) s))
    → count q (found_of (found d) s) ≡ count q s
unfolding found_of
found_set d q s ih =
    by_test (used_up (length (label_of s)) s)
    (λ t. let u = used_up_lem s t in rw t (ap (count q) (sym u)))
    (λ t.
    let l = label_of s in
    let k = length (label_of s) in
    rw t
    (count_map (λ e. entry (l ++ e.name) e.score) q (found d (remains k s))
    ∙ ih t (λ e. q (entry (l ++ e.name) e.score))
    ∙ count_map (stripped k) (λ e. q (entry (l ++ e.name) e.score)) s
    ∙ count_ext (λ e. q (entry (l ++ drop k e.name) e.score)) q s (λ e m. ap q (put_back s e m))))

found_count : (d : ℕ) (es : List Entry) → Fit d es → (q : Entry → Bool) → count q (found d es) ≡ count q es
found_count zero es h q = absurd (fit_positive es h)
found_count (suc d) es h q =
    count-concat-sort (found_of (found d)) q (λ a b. stands_before (node_of (group_of d 0) a) (node_of (group_of d 0) b))
    (by_first es)
    ∙ count-concat_ext (found_of (found d)) (λ s. s) q (by_first es)
    (λ s m. found_set d q s (λ u p. found_count d (remains (length (label_of s)) s) (set_fit d es s h m u) p))
    ∙ ap (count q) (by_first_flat es)

pub valid_fit : (es : List Entry) → Valid es → 0 < length es → Fit levels es
unfolding is_score
valid_fit es v ne =
    record {
      short = λ e m. let n = name_length e.name (all_in (λ f. is_name f.name) e es v.allowed m) in omega arith;
      fits = λ e m. ltb-true e.score (2 ^ 32) (all_in (λ f. is_score f.score) e es v.fits m);
      apart = different-rising es v.order;
      some = ne;
    }

trie_entries_of : (es : List Entry) (rest : List ℕ) → Valid es → trie_entries (trie_image es ++ rest) ≡ es
unfolding trie_entries trie_image
trie_entries_of es rest v = rw (framed-count 0x31 (length es) (group_of levels (highest es) es) rest
    (omega (arith, v.few))) (go es refl)
  where
    go :
        (fs : List Entry) → es ≡ fs
        → (if eqb (length es) 0 then [] otherwise sort_by name_below
        (group_from levels 0 (drop 7 (framed 0x31 (length es) (group_of levels (highest es) es) ++ rest))).entries)
        ≡ es
    go [] q = rw q
    go (f ∷ fs) q =
        let n = ap length q in
        let h = valid_fit es v (omega arith) in
        let top = highest-below (2 ^ 32) es (omega arith) h.fits in
        rw (
          ne_eqb (length es) 0 (λ z. omega arith),
          framed_body 0x31 (length es) (group_of levels (highest es) es) rest,
          group_of_lem levels es (highest es) 0 rest h top (omega arith),
        )
        (sort_to (found levels es) es v.order (found_count levels es h))

pub trie_exact : Exact read_trie trie_image
unfolding read_trie
trie_exact = exact trie_entries trie_image trie_entries_of

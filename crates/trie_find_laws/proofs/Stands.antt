-- The forest of a set of entries stands where the trie image writes its group.
use Prim.Native.Nat.{◌+◌, ◌-◌, ◌<◌, ◌^◌, ◌≤◌, suc, zero, ℕ}
use mathlib.Core.Path.{◌∙◌, ◌≡◌, ap, refl, sym}
use mathlib.Core.Logic.{inl, inr}
use mathlib.Core.Bool.{false, false≢true, true}
use mathlib.Core.List.{List, [], ◌++◌, ◌∷◌, append_assoc}
use lib.Dec.{eqb, ltb}
use lib.ListN.{drop, length, length-append}
use native.Mathlib.Nat.{not-suc-le-zero}
use native.Mathlib.Omega.{arith}
use borrow.Author.Tests.{ltb-true}
use Rattle.entries.proofs.BestList.{outranks_false}
use Rattle.octets.specs.Lists.{◌∈◌, sort_by}
use Rattle.octets.specs.Octets.{begins}
use Rattle.octets.proofs.Lists.{all_in, map_in, sort_in, sort-map}
use Rattle.octets.proofs.Order.{begins_split}
use Rattle.octets.proofs.Tests.{by_test}
use Rattle.entries.specs.Entries.{Entry, entry, valid}
use Rattle.entries.specs.Names.{is_name, longest_name}
use Rattle.entries.proofs.Valid.{name_length, valid_of}
use Rattle.frame.specs.Frame.{framed}
use Rattle.frame.proofs.Frame.{framed_body}
use Rattle.trie.specs.Trie.{Node, by_first, first_score, group_bytes, group_of, highest, is_last, is_leaf, label_of, levels}
use Rattle.trie.specs.Trie.{node_bytes, node_of, other_bytes, own_size, remains, siblings, size_of, stands_before, trie_image}
use Rattle.trie.specs.Trie.{used_up}
use Rattle.trie.proofs.Header.{Size, own_size_nonzero, own_size_size, size_of_fits, size_of_nonzero, size_of_size}
use Rattle.trie.proofs.Sets.{OneFirst, by_first-run, highest-below, label_short, label_split, one_first, stripped}
use Rattle.trie.proofs.Trie.{Fit, any_inner, group_some, group_split, node_inner, node_label, node_leaf, node_score}
use Rattle.trie.proofs.Trie.{node_size, nodes, own_field, own_siblings, set_fit, set_in, siblings_inner, siblings_leaf}
use Rattle.trie.proofs.Trie.{siblings_own, sorted_sets, unders, valid_fit}
use Rattle.trie_find_laws.specs.Planted.{kids_of, plant, plant_all}
use Rattle.trie_find_laws.specs.Search.{Forest, Proper, known, none, top, tree, wait}
use Rattle.trie_find_laws.specs.Places.{ForestAt, Lower, behind_at, children_at, is_leaf_at, is_none, score_field_at}
use Rattle.trie_find_laws.specs.Places.{score_or}
use Rattle.trie.proofs.Bound.{group_bound}
use Rattle.trie_find_laws.proofs.Nodes.{NodeReads, behind, reads}
use Rattle.trie_find_laws.proofs.Planted.{Fine, kids_none, kids_some, plant_proper, plant-some, remains_planted}
use Rattle.trie_find_laws.proofs.Planted.{set_fine, top_score}
use Rattle.trie_laws.specs.Keys.{set_before}

own_length : (s : ℕ) (xs : List Node) → any_inner xs ≡ true → length (own_siblings s xs) ≡ other_bytes s xs + own_field s xs
unfolding other_bytes
own_length s xs t = siblings_own s (other_bytes s xs + own_field s xs) (own_field s xs) xs t

own_fits : (o : ℕ) → o + own_size o < 2 ^ 32 → o + own_size o < 256 ^ own_size o
own_fits o h =
    by_test (ltb (o + 1) 256) (λ a. rw a (ltb-true (o + 1) 256 a))
    (λ a. by_test (ltb (o + 2) 65536) (λ b. rw (a, b) (ltb-true (o + 2) 65536 b))
    (λ b. let k : o + 4 < 2 ^ 32 = rw (a, b) at h in rw (a, b) k))

-- the last of the nodes is the last of the forest
last_none : (d : ℕ) (ss : List (List Entry)) → is_last (nodes d ss) ≡ is_none (plant_all (plant d) ss)
last_none d [] = refl
last_none d (s ∷ ss) = refl

-- the first child has its parent's score
child_score : (p l : List ℕ) (s : ℕ) (kids next : Forest) → Proper p (tree l s kids next) → score_or s kids ≡ s
child_score p l s none next r = refl
child_score p l s (tree a b c d) next r = sym r.5.1 ∙ r.1

is_none-some : (f : Forest) → (f ≡ none → ⊥) → is_none f ≡ false
is_none-some none h = absurd (h refl)
is_none-some (tree a b c d) h = refl

-- the score field of the first node, if there is one
abbrev pub Field : List ℕ → ℕ → ℕ → Forest → Type 0
Field bs at f none = Unit {0}
Field bs at f (tree l s kids next) = score_field_at bs at ≡ f

-- siblings in order: their bytes from `at` on, their groups from `u` on
record Row (bs : List ℕ) (at from u f b z : ℕ) (xs : List Node) : Type 0 where
  r : List ℕ
  q : List ℕ
  here : drop at bs ≡ siblings f b z xs ++ r
  under : drop u bs ≡ unders xs ++ q
  fits : f < 2 ^ 32
  sized : Size z
  some : eqb z 0 ≡ false
  child : any_inner xs ≡ true → (from + b ≡ u) × (b < 256 ^ z)
  before : at + length (siblings f b z xs) ≤ u
  small : length (unders xs) < 2 ^ 32

-- the score of the next is no higher
next_lower : (p l : List ℕ) (s : ℕ) (kids next : Forest) → Proper p (tree l s kids next) → score_or 0 next ≤ s
next_lower p l s kids none r = omega arith
next_lower p l s kids (tree a b c d) r = outranks_false (known (wait p a b c d)) (entry (p
    ++ l) s) (r.7 (wait p a b c d) (inl refl))

first_score_lem : (d : ℕ) (ss : List (List Entry)) → first_score (nodes d ss) ≡ score_or 0 (plant_all (plant d) ss)
first_score_lem d [] = refl
first_score_lem d (t ∷ ts) = node_score (group_of d 0) t

lower_of : (bs : List ℕ) (at s : ℕ) (f : Forest) → score_or 0 f ≤ s → Field bs at (s - score_or 0 f) f → Lower bs at s f
lower_of bs at s none h e = tt
lower_of bs at s (tree a b c d) h e = rw e (omega arith)

module _
    (bs : List ℕ) (d : ℕ) (p : List ℕ) (es : List Entry) (fit : Fit (suc d) es) (fine : Fine (suc d) es)
    (short : (e : Entry) → e ∈ es → length p + length e.name ≤ longest_name)
    (ih :
    (t : List Entry) → t ∈ by_first es → used_up (length (label_of t)) t ≡ false → (i : ℕ) (w : List ℕ)
    → drop i bs ≡ group_of d 0 (remains (length (label_of t)) t) ++ w
    → length (group_of d 0 (remains (length (label_of t)) t)) < 2 ^ 32
    → ForestAt bs (p ++ label_of t) i i (plant d (remains (length (label_of t)) t)))
  where
    abbrev Result : ℕ → ℕ → ℕ → List (List Entry) → Type 0
    Result at from f ss = ForestAt bs p at from (plant_all (plant d) ss) × Field bs at f (plant_all (plant d) ss)

    label_room : (s : List Entry) → s ∈ by_first es → length p + length (label_of s) ≤ longest_name
    label_room s m = go s (by_first-run es s m) m
      where
        go : (s : List Entry) → OneFirst s → s ∈ by_first es → length p + length (label_of s) ≤ longest_name
        go s (one_first e fs k) m =
            let a = short e (set_in es (e ∷ fs) e m (inl refl)) in
            let b = ap length (label_split (e ∷ fs) e (inl refl)) in
            let c = length-append (label_of (e ∷ fs)) (drop (length (label_of (e ∷ fs))) e.name) in
            omega arith

    abbrev node : List Entry → Node
    node s = node_of (group_of d 0) s

    node_fits : (s : List Entry) → s ∈ by_first es → (node s).score < 2 ^ 32
    node_fits s m = rw node_score (highest-below (2 ^ 32) s (omega arith) (λ e n. fit.fits e (set_in es s e m n)))

    module _
        (s : List Entry) (ss : List (List Entry)) (at from u f b z : ℕ) (row : Row bs at from u f b z (nodes d (s
        ∷ ss)))
        (m : s ∈ by_first es) (proper : Proper p (plant_all (plant d) (s ∷ ss)))
      where
        abbrev f' : ℕ
        f' = (node s).score - first_score (nodes d ss)

        f'_is : f' ≡ highest s - score_or 0 (plant_all (plant d) ss)
        f'_is = rw (node_score (group_of d 0) s, first_score_lem d ss)

        label_8 : length (node s).label < 8
        label_8 = rw node_label (label_short s)

        module _ (t : used_up (length (label_of s)) s ≡ true) where
          is_leaf_lem : is_leaf (node s) ≡ true
          is_leaf_lem = rw (node_leaf (group_of d 0) s t)

          leaf_bytes_lem : drop at bs ≡ node_bytes (node s) f 0 0 (is_last (nodes d ss))
              ++ (siblings f' b z (nodes d ss) ++ row.r)
          leaf_bytes_lem =
              row.here
              ∙ ap (λ w. w ++ row.r) (siblings_leaf f b z (node s) (nodes d ss) is_leaf_lem)
              ∙ append_assoc (node_bytes (node s) f 0 0 (is_last (nodes d ss))) (siblings f' b z (nodes d ss)) row.r

          leaf_reads : NodeReads bs at (node s) f 0 0 (is_last (nodes d ss)) (siblings f' b z (nodes d ss) ++ row.r)
          leaf_reads = reads bs at (node s) f 0 0 (is_last (nodes d ss)) _ leaf_bytes_lem
              (record { back = refl; small = omega arith }) label_8 row.fits (omega arith)

          leaf_row : Row bs (behind_at bs at) from u f' b z (nodes d ss)
          leaf_row =
              let w = leaf_reads in
              let n = node_fits s m in
              let e = w.end in
              let k = row.before in
              let a = ap length (siblings_leaf f b z (node s) (nodes d ss) is_leaf_lem) in
              let c = length-append (node_bytes (node s) f 0 0 (is_last (nodes d ss))) (siblings f' b z (nodes d ss)) in
              let g = length-append (node s).under (unders (nodes d ss)) in
              let y = row.small in
              record {
                r = row.r;
                q = row.q;
                here = w.rest;
                under = row.under ∙ rw (node_leaf (group_of d 0) s t);
                fits = omega arith;
                sized = row.sized;
                some = row.some;
                child = λ i. row.child (rw is_leaf_lem i);
                before = omega arith;
                small = omega arith;
              }

          leaf_at : is_leaf_at bs at ≡ true
          leaf_at = ap (λ k. eqb k 0) leaf_reads.sized

          leaf_stands : Result (behind_at bs at) from f' ss → Result at from f (s ∷ ss)
          leaf_stands next = (
            (
              record {
                inside = leaf_reads.inside;
                label = leaf_reads.label ∙ node_label (group_of d 0) s;
                leaf = leaf_at ∙ rw (kids_none (plant d) s t);
                short = label_room s m;
                ahead = λ n. absurd (false≢true (sym n ∙ rw (kids_none (plant d) s t)));
              },
              leaf_reads.marked ∙ last_none d ss,
              child_score p (label_of s) (highest s) (kids_of (plant d) s) (plant_all (plant d) ss) proper,
              lower_of bs (behind_at bs at) (highest s) (plant_all (plant d) ss)
                  (next_lower p (label_of s) (highest s) (kids_of (plant d) s) (plant_all (plant d) ss) proper)
                  (rw f'_is at next.1),
              rw (kids_none (plant d) s t) tt,
              rw leaf_at next.0,
            ),
            leaf_reads.score,
          )

        module _ (t : used_up (length (label_of s)) s ≡ false) where
          abbrev rest : List Entry
          rest = remains (length (label_of s)) s

          under_is : (node s).under ≡ group_of d 0 rest
          under_is = node_inner (group_of d 0) s t

          is_inner_lem : is_leaf (node s) ≡ false
          is_inner_lem = rw under_is (group_some d rest (set_fit d es s fit m t))

          abbrev long : ℕ
          long = length (node s).under

          field : (from + b ≡ u) × (b < 256 ^ z)
          field = row.child (rw is_inner_lem)

          inner_bytes :
              drop at bs ≡ node_bytes (node s) f b z (is_last (nodes d ss))
              ++ (siblings f' long (size_of long) (nodes d ss) ++ row.r)
          inner_bytes =
              row.here
              ∙ ap (λ w. w ++ row.r) (siblings_inner f b z (node s) (nodes d ss) is_inner_lem)
              ∙ append_assoc (node_bytes (node s) f b z (is_last (nodes d ss)))
              (siblings f' long (size_of long) (nodes d ss)) row.r

          inner_reads : NodeReads bs at (node s) f b z (is_last (nodes d ss))
              (siblings f' long (size_of long) (nodes d ss)
              ++ row.r)
          inner_reads = reads bs at (node s) f b z (is_last (nodes d ss)) _ inner_bytes row.sized label_8 row.fits
              field.1

          children : children_at bs at from ≡ u
          children = ap (λ c. from + c) inner_reads.child ∙ field.0

          under_here : drop u bs ≡ (node s).under ++ (unders (nodes d ss) ++ row.q)
          under_here = row.under ∙ append_assoc (node s).under (unders (nodes d ss)) row.q

          inner_row : Row bs (behind_at bs at) u (u + long) f' long (size_of long) (nodes d ss)
          inner_row =
              let w = inner_reads in
              let n = node_fits s m in
              let e = w.end in
              let k = row.before in
              let a = ap length (siblings_inner f b z (node s) (nodes d ss) is_inner_lem) in
              let c = length-append (node_bytes (node s) f b z (is_last (nodes d ss)))
              (siblings f' long (size_of long) (nodes d ss)) in
              let g = length-append (node s).under (unders (nodes d ss)) in
              let y = row.small in
              record {
                r = row.r;
                q = row.q;
                here = w.rest;
                under = behind bs (node s).under (unders (nodes d ss) ++ row.q) u under_here;
                fits = omega arith;
                sized = size_of_size long;
                some = size_of_nonzero long is_inner_lem;
                child = λ i. (refl, size_of_fits long (omega arith));
                before = omega arith;
                small = omega arith;
              }

          inner_at : is_leaf_at bs at ≡ false
          inner_at = ap (λ k. eqb k 0) inner_reads.sized ∙ row.some

          kids_is : kids_of (plant d) s ≡ plant d rest
          kids_is = kids_some (plant d) s t

          kids_inner : is_none (kids_of (plant d) s) ≡ false
          kids_inner = rw kids_is (is_none-some (plant d rest)
              (remains_planted d s (by_first-run es s m) (set_fine d es s fine m t)))

          at_u : at < u
          at_u =
              let a = ap length (siblings_inner f b z (node s) (nodes d ss) is_inner_lem) in
              let c = length-append (node_bytes (node s) f b z (is_last (nodes d ss)))
              (siblings f' long (size_of long) (nodes d ss)) in
              let e = node_size (node s) f b z (is_last (nodes d ss)) in
              let k = row.before in
              omega arith

          under_small : length (group_of d 0 rest) < 2 ^ 32
          under_small =
              let g = length-append (node s).under (unders (nodes d ss)) in
              let y = row.small in
              let a = ap length under_is in
              omega arith

          inner_stands : Result (behind_at bs at) u f' ss → Result at from f (s ∷ ss)
          inner_stands next = (
            (
              record {
                inside = inner_reads.inside;
                label = inner_reads.label ∙ node_label (group_of d 0) s;
                leaf = inner_at ∙ sym kids_inner;
                short = label_room s m;
                ahead = λ n. rw children at_u;
              },
              inner_reads.marked ∙ last_none d ss,
              child_score p (label_of s) (highest s) (kids_of (plant d) s) (plant_all (plant d) ss) proper,
              lower_of bs (behind_at bs at) (highest s) (plant_all (plant d) ss)
                  (next_lower p (label_of s) (highest s) (kids_of (plant d) s) (plant_all (plant d) ss) proper)
                  (rw f'_is at next.1),
              rw (kids_is, children) (ih s m t u (unders (nodes d ss)
                  ++ row.q) (rw under_is at under_here) under_small),
              rw (inner_at, children) next.0,
            ),
            inner_reads.score,
          )

    sets_stand :
        (ss : List (List Entry)) (at from u f b z : ℕ) → Row bs at from u f b z (nodes d ss)
        → ((s : List Entry) → s ∈ ss → s ∈ by_first es)
        → Proper p (plant_all (plant d) ss) → Result at from f ss
    sets_stand [] at from u f b z row m proper = (tt, tt)
    sets_stand (s ∷ ss) at from u f b z row m proper =
        let n = m s (inl refl) in
        by_test (used_up (length (label_of s)) s)
        (λ t.
        leaf_stands s ss at from u f b z row n proper t
        (sets_stand ss (behind_at bs at) from u (f' s ss at from u f b z row n proper) b z
        (leaf_row s ss at from u f b z row n proper t) (λ v i. m v (inr i)) proper.6))
        (λ t.
        let long = length (node s).under in
        inner_stands s ss at from u f b z row n proper t
        (sets_stand ss (behind_at bs at) u (u + long) (f' s ss at from u f b z row n proper) long (size_of long)
        (inner_row s ss at from u f b z row n proper t) (λ v i. m v (inr i)) proper.6))

-- siblings stand as the keys of their sets do
stands-key : (d : ℕ) (a b : List Entry) → stands_before (node_of (group_of d 0) a) (node_of (group_of d 0) b) ≡ set_before a b
stands-key d a b = rw (
  node_label (group_of d 0) a,
  node_label (group_of d 0) b,
  node_score (group_of d 0) a,
  node_score (group_of d 0) b,
)

sorted_keys : (d : ℕ) (es : List Entry) → sorted_sets d es ≡ sort_by set_before (by_first es)
sorted_keys d es = ap (λ r. sort_by r (by_first es)) (λ i a b. stands-key d a b i)

group_sets : (d s : ℕ) (es : List Entry) → group_of (suc d) s es ≡ group_bytes s (nodes d (sort_by set_before (by_first es)))
group_sets d s es = ap (group_bytes s) (sym (sort-map (node_of (group_of d 0)) stands_before (by_first es))
    ∙ ap (nodes d) (sorted_keys d es))

remains_short :
    (p : List ℕ) (s : List Entry) → ((e : Entry) → e ∈ s → length p + length e.name ≤ longest_name)
    → (e : Entry) → e ∈ remains (length (label_of s)) s → length (p ++ label_of s) + length e.name ≤ longest_name
remains_short p s h e n = go (map_in (stripped (length (label_of s))) e s n)
  where
    go : (x : Entry) × (x ∈ s) × (e ≡ stripped (length (label_of s)) x)
        → length (p ++ label_of s) + length e.name ≤ longest_name
    go q =
        let a = h q.0 q.1 in
        let b = ap length (label_split s q.0 q.1) in
        let c = length-append (label_of s) (drop (length (label_of s)) q.0.name) in
        let f = ap (λ x. length x.name) q.2 in
        let g = length-append p (label_of s) in
        omega arith

group_stands :
    (bs : List ℕ) (d : ℕ) (p : List ℕ) (s : ℕ) (es : List Entry) (i : ℕ) (w : List ℕ) → Fit d es → Fine d es
    → ((e : Entry) → e ∈ es → length p + length e.name ≤ longest_name) → s < 2 ^ 32
    → drop i bs ≡ group_of d s es ++ w → length (group_of d s es) < 2 ^ 32
    → ForestAt bs p i i (plant d es) × Field bs i s (plant d es)
group_stands bs zero p s es i w fit fine short fits h small = (tt, tt)
group_stands bs (suc d) p s es i w fit fine short fits h small =
    let ss = sort_by set_before (by_first es) in
    let xs = nodes d ss in
    let o = other_bytes s xs in
    let g = group_split s xs w in
    let here : drop i bs ≡ own_siblings s xs ++ (unders xs ++ w) = h ∙ ap (λ b. b ++ w) (group_sets d s es) ∙ g in
    let n = ap length (group_sets d s es) in
    let l = length-append (group_bytes s xs) w in
    let k = ap length g in
    let a = length-append (own_siblings s xs) (unders xs ++ w) in
    let b = length-append (unders xs) w in
    sets_stand bs d p es fit fine short
    (λ t m u j v q y. (group_stands bs d (p
    ++ label_of t) 0 (remains (length (label_of t)) t) j v (set_fit d es t fit m u) (set_fine d es t fine m u)
    (remains_short p t (λ e c. short e (set_in es t e m c))) (omega arith) q y).0)
    ss i i (i + length (own_siblings s xs)) s (o + own_field s xs) (own_field s xs)
    (record {
      r = unders xs ++ w;
      q = w;
      here = here;
      under = behind bs (own_siblings s xs) (unders xs ++ w) i here;
      fits = fits;
      sized = own_size_size o;
      some = own_size_nonzero o;
      child = λ t. let e = own_length s xs t in (omega arith, own_fits o (omega arith));
      before = omega arith;
      small = omega arith;
    })
    (λ t m. sort_in set_before t (by_first es) m)
    (plant_proper (suc d) p es fine)

-- the first node of a planted forest has the highest score
first_high_lem : (f : Forest) (s : ℕ) → Proper [] f → ((f ≡ none → ⊥) → (top [] f).score ≡ s) → (f ≡ none → ⊥)
    → score_or 0 f ≡ s
first_high_lem none s r h n = absurd (n refl)
first_high_lem (tree l t kids next) s r h n = sym r.1 ∙ h n

planted : (es : List Entry) → Fine levels es → 0 < length es → plant levels es ≡ none → ⊥
planted [] z h q = not-suc-le-zero h
planted (e ∷ es) z h q = plant-some levels e es z q

-- what stands in a buffer whose front is a trie image of some entries: their forest from byte 7 on, the first score in
-- the first field
pub record InTrie (bs : List ℕ) (es : List Entry) : Type 0 where
  pub stands : ForestAt bs [] 7 7 (plant levels es)
  pub field : Field bs 7 (score_or 0 (plant levels es)) (plant levels es)
  pub some : plant levels es ≡ none → ⊥

pub trie_stands : (bs : List ℕ) (es : List Entry) → valid es ≡ true → begins (trie_image es) bs ≡ true → 0 < length es
    → InTrie bs es
unfolding trie_image
trie_stands bs es h b ne =
    let v = valid_of es h in
    let fit = valid_fit es v ne in
    let short : (e : Entry) → e ∈ es
    → length e.name ≤ longest_name = λ e m. name_length e.name
    (all_in (λ f. is_name f.name) e es v.allowed m) in
    let fine : Fine levels es = record { short = λ e m. let n = short e m in omega arith; rises = v.order } in
    let body = group_of levels (highest es) es in
    let split = begins_split (framed 0x31 (length es) body) bs b in
    let w = drop (length (framed 0x31 (length es) body)) bs in
    let here : drop 7 bs ≡ body ++ w = ap (drop 7) split ∙ framed_body 0x31 (length es) body w in
    let g = group_bound levels (highest es) es in
    let m = v.few in
    let r =
    group_stands bs levels [] (highest es) es 7 w fit fine (λ e m. let n = short e m in omega arith)
    (highest-below (2 ^ 32) es (omega arith) fit.fits) here (omega arith)
    in
    let some = planted es fine ne in
    let top-is = first_high_lem (plant levels es) (highest es) (plant_proper levels [] es fine)
    (top_score levels [] es fine) some in
    record { stands = r.0; field = rw top-is r.1; some = some }

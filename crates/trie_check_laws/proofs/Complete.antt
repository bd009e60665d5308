-- The check accepts the image of entries.
use Prim.Native.Nat.{◌*◌, ◌+◌, ◌-◌, ◌<◌, ◌^◌, ◌≤◌, suc, zero, ℕ}
use mathlib.Core.Path.{◌∙◌, ◌≡◌, ap, refl, subst, sym}
use mathlib.Core.Logic.{◌⊎◌, inl, inr}
use mathlib.Core.Bool.{Bool, false, false≢true, true}
use mathlib.Core.List.{List, [], ◌++◌, ◌∷◌, append_assoc, map}
use Rattle.std.specs.Prelude.{Some}
use lib.Dec.{eqb, ltb}
use lib.ListN.{drop, get_or, length, length-append, length-drop, length-replicate, length-set, replicate, set}
use lib.Seq.{drop_at, drop-drop, get_or-set_other}
use native.Mathlib.Omega.{arith}
use borrow.Author.Tests.{eq-eqb, eqb-false, eqb-true, lt-ltb, ltb-true, ne_eqb}
use Rattle.octets.proofs.Tests.{by_test}
use Rattle.octets.specs.Lists.{◌∈◌, if◌then◌otherwise◌}
use Rattle.octets.proofs.Lists.{some_in}
use Rattle.entries.proofs.BestList.{different-rising}
use Rattle.entries.specs.Entries.{Entry}
use Rattle.entries_laws.proofs.Halves.{number_behind}
use Rattle.entries_laws.specs.Halves.{half_behind, half_number}
use Rattle.entries_laws.specs.Signs.{half_after, no_half}
use Rattle.entries_laws.specs.declared.Half.{Half}
use Rattle.trie.proofs.Header.{Size, own_size_nonzero, own_size_size, size_of_fits, size_of_nonzero, size_of_size}
use Rattle.trie.proofs.Sets.{flat, highest-below, label_short}
use Rattle.trie.proofs.Trie.{Fit, any_inner, group_some, node_label, node_score, node_size, nodes, siblings_inner}
use Rattle.trie.proofs.Trie.{siblings_leaf, siblings-length, siblings_own, unders}
use Rattle.trie.specs.Trie.{Node, first_score, group_bytes, group_of, highest, is_last, is_leaf, label_of, node_bytes, node_of}
use Rattle.trie.specs.Trie.{other_bytes, own_size, siblings, size_of}
use Rattle.trie_group_laws.proofs.Groups.{Siblings, first_top, scatter, scattered, scattered_length, scattered_nodes}
use Rattle.trie_group_laws.proofs.Groups.{scattered_top, set_before_lem}
use Rattle.trie_group_laws.proofs.Keys.{keys_differ}
use Rattle.trie_group_laws.proofs.Made.{Made, Suffixes, made_facts}
use Rattle.trie_group_laws.proofs.Sort.{chain, chain_tail}
use Rattle.trie_laws.specs.Keys.{KeyIn, key, keys_behind, set_before, set_key}
use Rattle.trie_laws.proofs.Behind.{set-key_behind}
use Rattle.trie_check_laws.proofs.Heads.{fields_for, node_behind, node_label_at, node_read, node_within}
use Rattle.trie_check_laws.proofs.Sound.{is_nil, last_nodes}
use Rattle.trie_check_laws.proofs.Stand.{FieldsStand, true_stands}
use Rattle.trie_check_laws.proofs.Weight.{Kid, Lone, group_weight, kind, scattered_weight, weight, weight_part}
use Rattle.trie_check_laws.proofs.Written.{siblings-any}
use Rattle.trie_check_laws.specs.Walk.{above, after_inner, after_leaf, after_node, and_then, begin_group, beneath}
use Rattle.trie_check_laws.specs.Walk.{group_end, half_of, head_of, in_group, in_node, in_rest, into, label_at}
use Rattle.trie_check_laws.specs.Walk.{mark_count, mark_place, none_seen, score_of, walk_of, walk_to}
use Rattle.trie_check_laws.specs.declared.Fields.{Fields}
use Rattle.trie_check_laws.specs.declared.Above.{Above}
use Rattle.trie_check_laws.specs.declared.Among.{Among}
use Rattle.trie_laws.proofs.Keys.{label_key}

-- one step of the walk
walk_leaf :
    (s : List ℕ) (k : ℕ) (p : Among) (seen : List ℕ) (n : Fields) → head_of s p.at ≡ Some n → FieldsStand p n
    → get_or seen (mark_place n.key) 0 ≡ 0 → n.size ≡ 0 → half_number (half_of s p n) ≡ no_half
    → walk_of s (suc k) (in_node p seen) ≡ walk_of s k (in_rest (after_leaf p n) (set seen (mark_place n.key) 1) n.last)
unfolding walk_of
walk_leaf s k p seen n h st fr z w = rw (
  h,
  true_stands p n st,
  eq-eqb (get_or seen (mark_place n.key) 0) 0 fr,
  eq-eqb n.size 0 z,
  eq-eqb (half_number (half_of s p n)) no_half w,
)

walk_inner :
    (s : List ℕ) (k m lf : ℕ) (p : Among) (seen : List ℕ) (n : Fields) → head_of s p.at ≡ Some n
    → FieldsStand p n
    → get_or seen (mark_place n.key) 0 ≡ 0 → (n.size ≡ 0 → ⊥)
    → walk_of s k (beneath s p n) ≡ walk_to m lf
    → walk_of s (suc k) (in_node p seen) ≡ walk_of s k
    (in_rest (after_inner p n m lf) (set seen (mark_place n.key) 1) n.last)
unfolding walk_of
walk_inner s k m lf p seen n h st fr z g = rw (
  h,
  true_stands p n st,
  eq-eqb (get_or seen (mark_place n.key) 0) 0 fr,
  ne_eqb n.size 0 z,
) (ap (λ w. and_then w
    (λ q left. walk_of s k (in_rest (after_inner p n q left) (set seen (mark_place n.key) 1) n.last))) g)

walk_last : (s : List ℕ) (k : ℕ) (p : Among) (seen : List ℕ) (last : Bool) → last ≡ true
    → walk_of s (suc k) (in_rest p seen last) ≡ walk_to p.next p.left
unfolding walk_of
walk_last s k p seen last t = rw t

walk_more : (s : List ℕ) (k : ℕ) (p : Among) (seen : List ℕ) (last : Bool) → last ≡ false
    → walk_of s (suc k) (in_rest p seen last) ≡ walk_of s k (in_node p seen)
unfolding walk_of
walk_more s k p seen last t = rw t

walk_group :
    (s : List ℕ) (k at : ℕ) (a : Above) (left e : ℕ) → group_end s (suc k) at ≡ Some e
    → walk_of s (suc k) (in_group at a left) ≡ walk_of s k (in_node (begin_group at e a left) none_seen)
unfolding walk_of
walk_group s k at a left e h = ap (λ w. into w (λ e. walk_of s k (in_node (begin_group at e a left) none_seen))) h

end_one : (s : List ℕ) (k at : ℕ) (n : Fields) → head_of s at ≡ Some n → n.last ≡ true
    → group_end s (suc k) at ≡ Some n.end
unfolding group_end
end_one s k at n h t = rw (h, t)

end_more : (s : List ℕ) (k at : ℕ) (n : Fields) → head_of s at ≡ Some n → n.last ≡ false
    → group_end s (suc k) at ≡ group_end s k n.end
unfolding group_end
end_more s k at n h t = rw (h, t)

-- the child field to come
pub record ChildField (own : Bool) (back size : ℕ) : Type 0 where
  pub is_own : own ≡ true → size ≡ own_size (back - size)
  pub is_next : own ≡ false → size ≡ size_of back
  pub sized : Size size
  pub fits : back < 256 ^ size
  pub some : size ≡ 0 → ⊥

field_next : (back : ℕ) → 0 < back → back < 2 ^ 32 → ChildField false back (size_of back)
field_next back h l =
    record {
      is_own = λ t. absurd (false≢true t);
      is_next = λ t. refl;
      sized = size_of_size back;
      fits = size_of_fits back l;
      some = eqb-false (size_of back) 0 (size_of_nonzero back (ne_eqb back 0 (λ z. omega arith)));
    }

field_own : (o : ℕ) → o + own_size o < 2 ^ 32 → ChildField true (o + own_size o) (own_size o)
field_own o h =
    record {
      is_own = λ t. let q : o ≡ o + own_size o - own_size o = omega arith in ap own_size q;
      is_next = λ t. absurd (false≢true (sym t));
      sized = own_size_size o;
      fits = fits;
      some = eqb-false (own_size o) 0 (own_size_nonzero o);
    }
  where
    fits : o + own_size o < 256 ^ own_size o
    fits =
        by_test (ltb (o + 1) 256) (λ a. let q = ltb-true (o + 1) 256 a in rw a (omega arith))
        (λ a. by_test (ltb (o + 2) 65536) (λ b. let q = ltb-true (o + 2) 65536 b in
        rw (a, b) (omega arith)) (λ b. let z : o + 4 < 2 ^ 32 = rw (a, b) at h in rw (a, b) (omega arith)))

size_none : Size 0
size_none = record { back = refl; small = omega arith }

highest_fits : (path half : ℕ) (t : List Entry) → Made path half (label_of t) (highest t) t → highest t < 2 ^ 32
highest_fits path half t m = highest-below (2 ^ 32) t (omega arith) (made_facts m).fits

-- Keys that can follow a half have different places for their marks: from a place the key is known again.
abbrev key_at : ℕ → ℕ
key_at q = if eqb q 3 then suc 0xC2 otherwise if eqb q 15 then suc 0xCE otherwise q

key_again : (k : ℕ) → KeyIn k (keys_behind no_half) → key_at (mark_place k) ≡ k
key_again k (inl m) = let q : k ≡ 0 = omega (arith, m.1) in rw q
key_again k (inr (inl m)) =
    rw (
      lt-ltb k mark_count (omega (arith, m.1)),
      ne_eqb k 3 (λ z. omega (arith, m.0)),
      ne_eqb k 15 (λ z. omega (arith, m.0)),
    )
key_again k (inr (inr (inl m))) = let q : k ≡ suc 0xC2 = omega (arith, m.0, m.1) in rw q
key_again k (inr (inr (inr (inl m)))) = let q : k ≡ suc 0xCE = omega (arith, m.0, m.1) in rw q
key_again k (inr (inr (inr (inr m)))) = absurd m

same_key : (h k l : ℕ) → KeyIn k (keys_behind h) → KeyIn l (keys_behind h) → mark_place k ≡ mark_place l → k ≡ l
same_key zero k l a b z = sym (key_again k a) ∙ ap key_at z ∙ key_again l b
same_key (suc zero) k l (inl a) (inl b) z = omega (arith, a.0, a.1, b.0, b.1)
same_key (suc zero) k l (inr a) b z = absurd a
same_key (suc zero) k l (inl a) (inr b) z = absurd b
same_key (suc (suc h)) k l (inl a) (inl b) z = omega (arith, a.0, a.1, b.0, b.1)
same_key (suc (suc h)) k l (inr a) b z = absurd a
same_key (suc (suc h)) k l (inl a) (inr b) z = absurd b

places_differ : {path : ℕ} (half : ℕ) (s t : List Entry) → Made path half (label_of s) (highest s) s
    → Made path half (label_of t) (highest t) t → mark_place (set_key s) ≡ mark_place (set_key t) → set_key s ≡ set_key t
places_differ half s t a b z =
    let f = made_facts a in
    let g = made_facts b in
    same_key half (set_key s) (set_key t) (set-key_behind half s f.run f.allowed)
    (set-key_behind half t g.run g.allowed) z

-- a group below is of some bytes, and of fewer than 2 ^ 32
module _ (path half d : ℕ) (t : List Entry) (deep : 48 < path + suc d) (light : weight t < 2 ^ 32)
    (k : Kid path half d t) where
  abbrev node : Node
  node = node_of (group_of d 0) t

  kid_fit : Fit d k.es
  kid_fit =
      record {
        short = λ e m. let a = k.below.short e m in let b = k.some in omega arith;
        fits = k.below.fits;
        apart = different-rising k.es k.below.up;
        some = k.below.some;
      }

  kid_some : length node.under ≡ 0 → ⊥
  kid_some z = eqb-false (length (group_of d 0 k.es)) 0 (group_some d k.es kid_fit) (sym (ap length k.under)
      ∙ z)

  kid_inner : is_leaf node ≡ false
  kid_inner = ne_eqb (length node.under) 0 kid_some

  kid_light : length node.under < 2 ^ 32
  kid_light =
      let a = group_weight d 0 (path + length (label_of t)) (half_after half (label_of t)) (eqb (length (label_of t)) 7)
      k.es k.below in
      let b = k.light in
      let c = ap length k.under in
      omega arith

  kid_field : ChildField false (length node.under) (size_of (length node.under))
  kid_field = field_next (length node.under) (some kid_some) kid_light
    where
      some : (length node.under ≡ 0 → ⊥) → 0 < length node.under
      some h = omega arith

lone_leaf : (path half d : ℕ) (t : List Entry) → Lone path half d t → is_leaf (node_of (group_of d 0) t) ≡ true
lone_leaf path half d t k = rw k.under

field_drop : (b : List Entry → List ℕ) (t : List Entry) (ss : List (List Entry)) → highest t < 2 ^ 32
    → (node_of b t).score - first_score (map (node_of b) ss) < 2 ^ 32
field_drop b t ss h = let a = node_score b t in omega arith

-- One node read: its label, and its fields' values.
module _ (s : List ℕ) (d at f c cs : ℕ) (t : List Entry) (last : Bool) (r : List ℕ) (ff : f < 2 ^ 32) (z : Size cs)
    (fc : c < 256 ^ cs) (e : drop at s ≡ node_bytes (node_of (group_of d 0) t) f c cs last ++ r) where
  abbrev fields : Fields
  fields = fields_for (node_of (group_of d 0) t) at f c cs last

  short : length (node_of (group_of d 0) t).label < 8
  short = rw node_label (label_short t)

  read : head_of s at ≡ Some fields
  read = node_read s at (node_of (group_of d 0) t) f c cs last r z short ff fc e

  read_label : label_at s fields ≡ label_of t
  read_label = node_label_at s at (node_of (group_of d 0) t) f c cs last r z short ff fc e ∙ node_label (group_of d 0) t

  read_behind : drop fields.end s ≡ r
  read_behind = node_behind s at (node_of (group_of d 0) t) f c cs last r z short ff fc e

  read_within : fields.end ≤ length s
  read_within = node_within s at (node_of (group_of d 0) t) f c cs last r z short ff fc e

  read_length : at + length (node_bytes (node_of (group_of d 0) t) f c cs last) ≡ fields.end
  read_length = let a = node_size (node_of (group_of d 0) t) f c cs last in omega arith

-- where a group ends
module _ (s : List ℕ) (path half d : ℕ) (deep : 48 < path + suc d) where
  abbrev EndT : List (List Entry) → Type 0
  EndT ss =
      (at f back size k : ℕ) (own : Bool) (r : List ℕ)
      → ((t : List Entry) → t ∈ ss → Made path half (label_of t) (highest t) t)
      → ((t : List Entry) → t ∈ ss → weight t < 2 ^ 32)
      → f < 2 ^ 32 → (any_inner (nodes d ss) ≡ true → ChildField own back size) → 0 < length ss
      → drop at s ≡ siblings f back size (nodes d ss) ++ r → length s - at < k
      → group_end s k at ≡ Some (at + length (siblings f back size (nodes d ss)))

  -- after a node that is read
  end_after_lem :
      (ss : List (List Entry)) (ih : EndT ss) (t : List Entry) (at f c cs k f' back size : ℕ) (own : Bool)
      (r all : List ℕ) (ff : f < 2 ^ 32)
      (z : Size cs) (fc : c < 256 ^ cs)
      (e : drop at s ≡ node_bytes (node_of (group_of d 0) t) f c cs (is_last (nodes d ss))
      ++ (siblings f' back size (nodes d ss) ++ r))
      → ((u : List Entry) → u ∈ ss → Made path half (label_of u) (highest u) u)
      → ((u : List Entry) → u ∈ ss → weight u < 2 ^ 32)
      → f' < 2 ^ 32 → (any_inner (nodes d ss) ≡ true → ChildField own back size) → length s - at < k
      → all ≡ node_bytes (node_of (group_of d 0) t) f c cs (is_last (nodes d ss)) ++ siblings f' back size (nodes d ss)
      → group_end s k at ≡ Some (at + length all)
  end_after_lem ss ih t at f c cs zero f' back size own r all ff z fc e made light ff' fi lt q = absurd (omega arith)
  end_after_lem [] ih t at f c cs (suc k) f' back size own r all ff z fc e made light ff' fi lt q =
      let l = read_length s d at f c cs t true (siblings f' back size [] ++ r) ff z fc e in
      let a = ap length q ∙ length-append (node_bytes (node_of (group_of d 0) t) f c cs true) [] in
      end_one s k at (fields s d at f c cs t true r ff z fc e) (read s d at f c cs t true r ff z fc e)
      refl
      ∙ ap Some (sym l ∙ (let y : at + length (node_bytes (node_of (group_of d 0) t) f c cs true) ≡ at + length
      all = omega arith in y))
  end_after_lem (u ∷ us) ih t at f c cs (suc k) f' back size own r all ff z fc e made light ff' fi lt q =
      let rest = siblings f' back size (nodes d (u ∷ us)) in
      let l = read_length s d at f c cs t false (siblings f' back size (nodes d (u ∷ us)) ++ r) ff z fc e in
      let w = read_within s d at f c cs t false (siblings f' back size (nodes d (u ∷ us)) ++ r) ff z fc e in
      let b = read_behind s d at f c cs t false (siblings f' back size (nodes d (u ∷ us)) ++ r) ff z fc e in
      let n = fields s d at f c cs t false (siblings f' back size (nodes d (u ∷ us)) ++ r) ff z fc e in
      let a = ap length q ∙ length-append (node_bytes (node_of (group_of d 0) t) f c cs false)
      (siblings f' back size (nodes d (u ∷ us))) in
      end_more s k at n (read s d at f c cs t false (siblings f' back size (nodes d (u ∷ us))
      ++ r) ff z fc e) refl
      ∙ ih n.end f' back size k own r made light ff' fi (omega arith) b (omega arith)
      ∙ ap Some (let y : n.end + length (siblings f' back size (nodes d (u ∷ us))) ≡ at + length all = omega arith in
      y)

  ends : (ss : List (List Entry)) → EndT ss
  ends [] at f back size k own r made light ff fi ne e lt = absurd (omega arith)
  ends (t ∷ ss) at f back size k own r made light ff fi ne e lt = go (kind path half d (made t (inl refl))) (ends ss)
    where
      x : Node
      x = node_of (group_of d 0) t

      xs : List Node
      xs = nodes d ss

      ff' : x.score - first_score xs < 2 ^ 32
      ff' = field_drop (group_of d 0) t ss (highest_fits path half t (made t (inl refl)))

      go : (Lone path half d t) ⊎ (Kid path half d t) → EndT ss
          → group_end s k at ≡ Some (at + length (siblings f back size (x ∷ xs)))
      go (inl a) ih =
          let lf = lone_leaf path half d t a in
          let q = siblings_leaf f back size x xs lf in
          end_after_lem ss ih t at f 0 0 k (x.score - first_score xs) back size own r (siblings f back size (x
          ∷ xs)) ff size_none (omega arith)
          (e ∙ ap (λ w. w ++ r) q ∙ append_assoc (node_bytes x f 0 0 (is_last xs))
          (siblings (x.score - first_score xs) back size xs) r)
          (λ u m. made u (inr m)) (λ u m. light u (inr m)) ff' (λ y. fi (rw lf y)) lt q
      go (inr a) ih =
          let inn = kid_inner path half d t deep (light t (inl refl)) a in
          let q = siblings_inner f back size x xs inn in
          let now = fi (rw inn) in
          end_after_lem ss ih t at f back size k (x.score - first_score xs) (length x.under)
          (size_of (length x.under)) false r (siblings f back size (x ∷ xs)) ff
          now.sized now.fits
          (e ∙ ap (λ w. w ++ r) q ∙ append_assoc (node_bytes x f back size (is_last xs))
          (siblings (x.score - first_score xs) (length x.under) (size_of (length x.under)) xs) r)
          (λ u m. made u (inr m)) (λ u m. light u (inr m)) ff'
          (λ y. kid_field path half d t deep (light t (inl refl)) a) lt
          q

-- Siblings that stand before the check, and what stands under them.
record Runs (s : List ℕ) (d : ℕ) (p : Among) (seen : List ℕ) (f size l : ℕ) (ss : List (List Entry)) (r q : List ℕ) :
    Type 0 where
  made : (t : List Entry) → t ∈ ss → Made p.path (half_number p.half) (label_of t) (highest t) t
  light : (t : List Entry) → t ∈ ss → weight t < 2 ^ 32
  order : chain set_before ss
  differ : keys_differ ss
  fresh : (t : List Entry) → t ∈ ss → get_or seen (mark_place (set_key t)) 0 ≡ 0
  array : length seen ≡ mark_count
  fits : f < 2 ^ 32
  field : any_inner (nodes d ss) ≡ true → ChildField p.own p.back size
  count : p.left ≡ l + length (flat ss)
  before : p.at + length (siblings f p.back size (nodes d ss)) ≤ p.next
  next : p.next ≤ length s
  deep : 48 < p.path + suc d
  here : drop p.at s ≡ siblings f p.back size (nodes d ss) ++ r
  there : drop p.next s ≡ unders (nodes d ss) ++ q

-- the first of them in its place
record At (p : Among) (t : List Entry) (ss : List (List Entry)) (f : ℕ) : Type 0 where
  root : p.first ≡ true → p.path ≡ 0 → p.score ≡ 0
  top : p.first ≡ true → highest t ≡ p.score + f
  low : p.first ≡ true → (p.path ≡ 0 → ⊥) → f ≡ 0
  lone : p.first ≡ true → ss ≡ [] → (p.full ≡ true) × (0 < set_key t)
  falls : p.first ≡ false → highest t + f ≡ p.score
  ties : p.first ≡ false → f ≡ 0 → p.key < set_key t

nil_of : (ss : List (List Entry)) → is_nil ss ≡ true → ss ≡ []
nil_of [] h = refl
nil_of (t ∷ ss) h = absurd (false≢true h)

key_len : (l : List ℕ) → 0 < key l → length l ≡ 0 → ⊥
key_len [] h z = omega arith
key_len (x ∷ l) h z = omega arith

-- groups of d levels are accepted
abbrev KidsT : List ℕ → ℕ → Type 0
KidsT s d =
    (es : List Entry) (at path : ℕ) (half : Half) (score : ℕ) (full : Bool) (left l k : ℕ) (r : List ℕ)
    → Suffixes path (half_number half) full es
    → 48 < path + d → score ≡ highest es → 0 < path → weight es < 2 ^ 32
    → left ≡ l + length es → at ≤ length s → drop at s ≡ group_of d 0 es ++ r → 4 * (length s - at) < k
    → walk_of s k (in_group at (above path half score full) left) ≡ walk_to (at + length (group_of d 0 es)) l

abbrev RestT : List ℕ → ℕ → List (List Entry) → Type 0
RestT s d ss =
    (p : Among) (seen : List ℕ) (f size l : ℕ) (r q : List ℕ) (k : ℕ) → Runs s d p seen f size l ss r q
    → p.first ≡ false
    → ((t : List Entry) (ts : List (List Entry)) → ss ≡ t ∷ ts → At p t ts f)
    → 2 * (length s - p.at) + 2 * (length s - p.next) < k
    → walk_of s (suc k) (in_rest p seen (is_nil ss)) ≡ walk_to (p.next + length (unders (nodes d ss))) l

module _ (s : List ℕ) (d : ℕ) (kids : KidsT s d) (t : List Entry) (ss : List (List Entry)) (ih : RestT s d ss)
    (p : Among) (seen : List ℕ) (f size l : ℕ) (r q : List ℕ) (run : Runs s d p seen f size l (t
    ∷ ss) r q) (at : At p t ss f) where
  abbrev x : Node
  x = node_of (group_of d 0) t

  abbrev xs : List Node
  xs = nodes d ss

  abbrev f' : ℕ
  f' = x.score - first_score xs

  mt : Made p.path (half_number p.half) (label_of t) (highest t) t
  mt = run.made t (inl refl)

  t_key : key x.label ≡ set_key t
  t_key = ap key (node_label (group_of d 0) t) ∙ (let a = made_facts mt in label_key t a.run)

  f'_fits : f' < 2 ^ 32
  f'_fits = field_drop (group_of d 0) t ss (highest_fits p.path (half_number p.half) t mt)

  -- the tests of the node
  module _ (c cs e : ℕ) (lab : length x.label ≡ length (label_of t)) (within : p.path + length (label_of t) ≤ 48)
      (empty : length (label_of t) ≡ 0 → (p.path ≡ 0 → ⊥) × (cs ≡ 0)) (lf : cs ≡ 0 → p.left ≡ 0
      → ⊥) (ch : (cs ≡ 0 → ⊥) → c ≡ p.back)
      (sz : (cs ≡ 0 → ⊥) → cs ≡ (if p.own then own_size (c - cs) otherwise size_of c)) where
    abbrev n : Fields
    n = fields_for x p.at f c cs (is_last xs)

    n_score : score_of p n ≡ highest t
    n_score =
        by_test p.first
        (λ y.
        let a = at.top y in
        rw y
        (by_test (eqb p.path 0)
        (λ z. let b = at.root y (eqb-true p.path 0 z) in rw z (omega arith))
        (λ z. let b = at.low y (eqb-false p.path 0 z) in rw z (omega arith))))
        (λ y. let a = at.falls y in rw y (omega arith))

    n_stands : FieldsStand p n
    n_stands =
        record {
          low = at.low;
          lone =
              λ y z.
              let a = at.lone y (nil_of ss (sym (last_nodes (group_of d 0) ss) ∙ z)) in
              (a.0, key_len x.label (rw t_key a.1));
          falls = λ y. let a = at.falls y in omega arith;
          ties = λ y z. rw t_key (at.ties y z);
          within = rw lab within;
          empty = λ z. empty (sym lab ∙ z);
          leaf = lf;
          child = ch;
          size = sz;
        }

    n_fresh : get_or seen (mark_place n.key) 0 ≡ 0
    n_fresh = rw t_key (run.fresh t (inl refl))

    rest_fresh : (u : List Entry) → u ∈ ss → get_or (set seen (mark_place n.key) 1) (mark_place (set_key u)) 0 ≡ 0
    rest_fresh u m =
        get_or-set_other seen (mark_place n.key) (mark_place (set_key u)) 1 0
        (λ z.
        run.differ.0 u m
        (sym (places_differ (half_number p.half) u t (run.made u (inr m)) mt (z ∙ ap mark_place t_key))))
        ∙ run.fresh u (inr m)

    rest_at : (nx bk lf : ℕ) (ow : Bool) (u : List Entry) (us : List (List Entry)) → ss ≡ u ∷ us
        → At (after_node p n nx bk ow lf) u us f'
    rest_at nx bk lf ow u us z =
        record {
          root = λ y. absurd (false≢true y);
          top = λ y. absurd (false≢true y);
          low = λ y. absurd (false≢true y);
          lone = λ y. absurd (false≢true y);
          falls = λ y. let a = lower in let b = n_score in let g = node_score (group_of d 0) t in let h = first_is in
              omega arith;
          ties = λ y w. let a = lower in let g = node_score (group_of d 0) t in let h = first_is in tie (omega arith);
        }
      where
        first_is : first_score xs ≡ highest u
        first_is = ap (λ w. first_score (map (node_of (group_of d 0)) w)) z ∙ node_score (group_of d 0) u

        um : u ∈ ss
        um = rw z (inl refl)

        ku : key (label_of u) ≡ set_key u
        ku = let a = made_facts (run.made u (inr um)) in label_key u a.run

        kt : key (label_of t) ≡ set_key t
        kt = let a = made_facts mt in label_key t a.run

        order : set_before t u ≡ true
        order = (subst (λ (w : List (List Entry)). chain set_before (t ∷ w)) z run.order).0

        order' : (if eqb (highest t) (highest u) then ltb (key (label_of t)) (key (label_of u)) otherwise ltb (highest u)
            (highest t)) ≡ true
        order' = sym (set_before_lem t u (λ y. run.differ.0 u um (sym kt ∙ y ∙ ku))) ∙ order

        lower : highest u ≤ highest t
        lower =
            by_test (eqb (highest t) (highest u))
            (λ y. let a = eqb-true (highest t) (highest u) y in omega arith)
            (λ y. let a = ltb-true (highest u) (highest t) (rw y at order') in omega arith)

        tie : highest t ≡ highest u → key x.label < set_key u
        tie y = let a : key (label_of t) < key (label_of u) = ltb-true (key (label_of t)) (key (label_of u))
            (rw (eq-eqb (highest t) (highest u) y) at order') in omega (arith, ku, kt, t_key)

  -- a leaf
  module _ (a : Lone p.path (half_number p.half) d t) where
    lf_leaf : is_leaf x ≡ true
    lf_leaf = lone_leaf p.path (half_number p.half) d t a

    lf_eq : siblings f p.back size (x ∷ xs) ≡ node_bytes x f 0 0 (is_last xs) ++ siblings f' p.back size xs
    lf_eq = siblings_leaf f p.back size x xs lf_leaf

    lf_bytes : drop p.at s ≡ node_bytes x f 0 0 (is_last xs) ++ (siblings f' p.back size xs ++ r)
    lf_bytes = run.here ∙ ap (λ w. w ++ r) lf_eq
        ∙ append_assoc (node_bytes x f 0 0 (is_last xs)) (siblings f' p.back size xs) r

    abbrev lf_n : Fields
    lf_n = fields_for x p.at f 0 0 (is_last xs)

    lf_count : p.left ≡ l + (1 + length (flat ss))
    lf_count = let b = run.count in let c = length-append t (flat ss) in let e = a.one in omega arith

    lf_lab : length x.label ≡ length (label_of t)
    lf_lab = ap length (node_label (group_of d 0) t)

    lf_empty : length (label_of t) ≡ 0 → (p.path ≡ 0 → ⊥) × (◌≡◌ {A = ℕ} 0 0)
    lf_empty z = ((λ y. let b = a.ends y in omega arith), refl)

    lf_left : ◌≡◌ {A = ℕ} 0 0 → p.left ≡ 0 → ⊥
    lf_left z y = let b = lf_count in omega arith

    lf_child : (◌≡◌ {A = ℕ} 0 0 → ⊥) → 0 ≡ p.back
    lf_child z = absurd (z refl)

    lf_size : (◌≡◌ {A = ℕ} 0 0 → ⊥) → 0 ≡ (if p.own then own_size (0 - 0) otherwise size_of 0)
    lf_size z = absurd (z refl)

    lf_stands : FieldsStand p lf_n
    lf_stands = n_stands 0 0 0 lf_lab a.within lf_empty lf_left lf_child lf_size

    lf_read : head_of s p.at ≡ Some lf_n
    lf_read = read s d p.at f 0 0 t (is_last xs) (siblings f' p.back size xs
        ++ r) run.fits size_none (omega arith) lf_bytes

    lf_whole : half_number (half_of s p lf_n) ≡ no_half
    lf_whole = ap (λ w. half_number (half_behind p.half w)) (read_label s d p.at f 0 0 t (is_last xs)
        (siblings f' p.back size xs
        ++ r) run.fits size_none (omega arith) lf_bytes) ∙ number_behind p.half (label_of t) ∙ a.whole

    lf_within : lf_n.end ≤ length s
    lf_within = read_within s d p.at f 0 0 t (is_last xs) (siblings f' p.back size xs
        ++ r) run.fits size_none (omega arith) lf_bytes

    lf_length : p.at + length (node_bytes x f 0 0 (is_last xs)) ≡ lf_n.end
    lf_length = read_length s d p.at f 0 0 t (is_last xs) (siblings f' p.back size xs
        ++ r) run.fits size_none (omega arith) lf_bytes

    lf_under : unders (x ∷ xs) ≡ unders xs
    lf_under = ap (λ w. w ++ unders xs) a.under

    lf_runs : Runs s d (after_leaf p lf_n) (set seen (mark_place lf_n.key) 1) f' size l ss r q
    lf_runs =
        record {
          made = λ u m. run.made u (inr m);
          light = λ u m. run.light u (inr m);
          order = chain_tail set_before t ss run.order;
          differ = run.differ.1;
          fresh = rest_fresh 0 0 0 lf_lab a.within lf_empty lf_left lf_child lf_size;
          array = length-set seen (mark_place lf_n.key) 1 ∙ run.array;
          fits = f'_fits;
          field = λ y. run.field (rw lf_leaf y);
          count = let b = lf_count in omega arith;
          before =
              let b = run.before in
              let c = ap length lf_eq in
              let e = length-append (node_bytes x f 0 0 (is_last xs)) (siblings f' p.back size xs) in
              let g = lf_length in
              omega arith;
          next = run.next;
          deep = run.deep;
          here = read_behind s d p.at f 0 0 t (is_last xs) (siblings f' p.back size xs
              ++ r) run.fits size_none (omega arith) lf_bytes;
          there = run.there ∙ ap (λ w. w ++ q) lf_under;
        }

    leaf_on : (k : ℕ) → 2 * (length s - p.at) + 2 * (length s - p.next) < k
        → walk_of s k (in_node p seen) ≡ walk_to (p.next + length (unders (x ∷ xs))) l
    leaf_on zero h = absurd (omega arith)
    leaf_on (suc zero) h = absurd (let b = lf_within in omega arith)
    leaf_on (suc (suc k)) h =
        walk_leaf s (suc k) p seen lf_n lf_read lf_stands
        (n_fresh 0 0 0 lf_lab a.within lf_empty lf_left lf_child lf_size) refl lf_whole
        ∙ ap (λ b. walk_of s (suc k) (in_rest (after_leaf p lf_n) (set seen (mark_place lf_n.key) 1) b))
        (last_nodes (group_of d 0) ss)
        ∙ ih (after_leaf p lf_n) (set seen (mark_place lf_n.key) 1) f' size l r q k lf_runs refl
        (rest_at 0 0 0 lf_lab a.within lf_empty lf_left lf_child lf_size p.next p.back (p.left - 1)
        p.own)
        (let b = lf_within in omega arith)
        ∙ ap (λ w. walk_to (p.next + length w) l) (sym lf_under)

  -- a node with children
  module _ (a : Kid p.path (half_number p.half) d t) where
    in_inner : is_leaf x ≡ false
    in_inner = kid_inner p.path (half_number p.half) d t run.deep (run.light t (inl refl)) a

    in_field : ChildField p.own p.back size
    in_field = run.field (rw in_inner)

    abbrev u : List ℕ
    u = x.under

    in_eq : siblings f p.back size (x ∷ xs) ≡ node_bytes x f p.back size (is_last xs)
        ++ siblings f' (length u) (size_of (length u)) xs
    in_eq = siblings_inner f p.back size x xs in_inner

    abbrev more : List ℕ
    more = siblings f' (length u) (size_of (length u)) xs ++ r

    in_bytes : drop p.at s ≡ node_bytes x f p.back size (is_last xs) ++ more
    in_bytes = run.here ∙ ap (λ w. w ++ r) in_eq
        ∙ append_assoc (node_bytes x f p.back size (is_last xs)) (siblings f' (length u) (size_of (length u)) xs) r

    abbrev in_n : Fields
    in_n = fields_for x p.at f p.back size (is_last xs)

    in_lab : length x.label ≡ length (label_of t)
    in_lab = ap length (node_label (group_of d 0) t)

    in_part : (e : Entry) × (e ∈ a.es)
    in_part = some_in a.es a.below.some

    in_within : p.path + length (label_of t) ≤ 48
    in_within = let b = a.below.short in_part.0 in_part.1 in omega arith

    in_empty : length (label_of t) ≡ 0 → (p.path ≡ 0 → ⊥) × (size ≡ 0)
    in_empty z = absurd (let b = a.some in omega arith)

    in_left : size ≡ 0 → p.left ≡ 0 → ⊥
    in_left z = absurd (in_field.some z)

    in_child : (size ≡ 0 → ⊥) → p.back ≡ p.back
    in_child z = refl

    in_size : (size ≡ 0 → ⊥) → size ≡ (if p.own then own_size (p.back - size) otherwise size_of p.back)
    in_size z = by_test p.own (λ y. in_field.is_own y ∙ rw y) (λ y. in_field.is_next y ∙ rw y)

    in_stands : FieldsStand p in_n
    in_stands = n_stands p.back size 0 in_lab in_within in_empty in_left in_child in_size

    in_read : head_of s p.at ≡ Some in_n
    in_read = read s d p.at f p.back size t (is_last xs) more run.fits in_field.sized
        in_field.fits in_bytes

    in_half : half_number (half_of s p in_n) ≡ half_after (half_number p.half) (label_of t)
    in_half = ap (λ w. half_number (half_behind p.half w)) (read_label s d p.at f p.back size t (is_last xs) more
        run.fits in_field.sized in_field.fits in_bytes) ∙ number_behind p.half (label_of t)

    in_inside : in_n.end ≤ length s
    in_inside = read_within s d p.at f p.back size t (is_last xs) more run.fits in_field.sized
        in_field.fits in_bytes

    in_length : p.at + length (node_bytes x f p.back size (is_last xs)) ≡ in_n.end
    in_length = read_length s d p.at f p.back size t (is_last xs) more run.fits in_field.sized
        in_field.fits in_bytes

    abbrev lf : ℕ
    lf = l + length (flat ss)

    abbrev m : ℕ
    m = p.next + length (group_of d 0 a.es)

    in_there : drop p.next s ≡ group_of d 0 a.es ++ (unders xs ++ q)
    in_there = run.there ∙ append_assoc u (unders xs) q ∙ ap (λ w. w ++ (unders xs ++ q)) a.under

    in_next : m ≤ length s
    in_next =
        let b = ap length in_there in
        let c = length-append (group_of d 0 a.es) (unders xs ++ q) in
        let e = length-drop p.next s in
        let g = run.next in
        omega arith

    in_count : p.left ≡ lf + length a.es
    in_count = let b = run.count in let c = length-append t (flat ss) in let e = a.many in omega arith

    in_before : p.at < p.next
    in_before =
        let b = run.before in
        let c = ap length in_eq in
        let e = length-append (node_bytes x f p.back size (is_last xs))
        (siblings f' (length u) (size_of (length u)) xs) in
        let g = in_length in
        omega arith

    in_back : length u ≡ m - p.next
    in_back = let b = ap length a.under in omega arith

    in_behind : drop m s ≡ unders xs ++ q
    in_behind = sym (drop-drop (length (group_of d 0 a.es)) p.next s)
        ∙ ap (drop (length (group_of d 0 a.es))) in_there
        ∙ drop_at (group_of d 0 a.es) (unders xs ++ q) (length (group_of d 0 a.es)) refl

    in_runs : Runs s d (after_inner p in_n m lf) (set seen (mark_place in_n.key) 1) f' (size_of (m - p.next)) l ss r q
    in_runs =
        record {
          made = λ v y. run.made v (inr y);
          light = λ v y. run.light v (inr y);
          order = chain_tail set_before t ss run.order;
          differ = run.differ.1;
          fresh = rest_fresh p.back size 0 in_lab in_within in_empty in_left in_child in_size;
          array = length-set seen (mark_place in_n.key) 1 ∙ run.array;
          fits = f'_fits;
          field = λ y. subst (λ (w : ℕ). ChildField false w (size_of w)) in_back
              (kid_field p.path (half_number p.half) d t run.deep (run.light t (inl refl)) a);
          count = refl;
          before =
              let b = run.before in
              let c = ap length in_eq in
              let e = length-append (node_bytes x f p.back size (is_last xs))
              (siblings f' (length u) (size_of (length u)) xs) in
              let g = in_length in
              let h : length (siblings f' (length u) (size_of (length u)) xs) ≡ length
              (siblings f' (m - p.next) (size_of (m - p.next)) xs) = ap (λ w. length (siblings f' w (size_of w) xs))
              in_back in
              omega arith;
          next = in_next;
          deep = run.deep;
          here =
              read_behind s d p.at f p.back size t (is_last xs) more run.fits in_field.sized
              in_field.fits in_bytes
              ∙ ap (λ w. siblings f' w (size_of w) xs ++ r) in_back;
          there = in_behind;
        }

    in_group_lem : (k : ℕ) → 4 * (length s - p.next) < k
        → walk_of s k (beneath s p in_n) ≡ walk_to m lf
    in_group_lem k h =
        kids a.es p.next (p.path + in_n.len) (half_of s p in_n) (score_of p in_n) (eqb in_n.len 7) p.left lf
        k (unders xs ++ q) (rw (in_half, in_lab) a.below)
        (let b = a.some in let c = run.deep in let e = in_lab in omega arith)
        (n_score p.back size 0 in_lab in_within in_empty in_left in_child in_size ∙ sym a.top)
        (let b = a.some in let e = in_lab in omega arith)
        (let b = a.light in let c = run.light t (inl refl) in omega arith)
        in_count run.next in_there h

    inner_on : (k : ℕ) → 2 * (length s - p.at) + 2 * (length s - p.next) < k
        → walk_of s k (in_node p seen) ≡ walk_to (p.next + length (unders (x ∷ xs))) l
    inner_on zero h = absurd (omega arith)
    inner_on (suc zero) h = absurd (let b = in_inside in omega arith)
    inner_on (suc (suc k)) h =
        walk_inner s (suc k) m lf p seen in_n in_read in_stands
        (n_fresh p.back size 0 in_lab in_within in_empty in_left in_child in_size) in_field.some
        (in_group_lem (suc k) (let b = in_before in let c = run.next in omega arith))
        ∙ ap (λ b. walk_of s (suc k) (in_rest (after_inner p in_n m lf) (set seen (mark_place in_n.key) 1) b))
        (last_nodes (group_of d 0) ss)
        ∙ ih (after_inner p in_n m lf) (set seen (mark_place in_n.key) 1) f' (size_of (m - p.next)) l r q k in_runs
        refl
        (rest_at p.back size 0 in_lab in_within in_empty in_left in_child in_size m (m - p.next) lf false)
        (let b = in_inside in omega arith)
        ∙ ap (λ w. walk_to w l)
        (let b = length-append u (unders xs) in let c = ap length a.under in
        let y : m + length (unders xs) ≡ p.next + length (unders (x ∷ xs)) = omega arith in y)

  node_on_lem : (k : ℕ) → 2 * (length s - p.at) + 2 * (length s - p.next) < k
      → walk_of s k (in_node p seen) ≡ walk_to (p.next + length (unders (x ∷ xs))) l
  node_on_lem k h = go (kind p.path (half_number p.half) d mt)
    where
      go : (Lone p.path (half_number p.half) d t) ⊎ (Kid p.path (half_number p.half) d t)
          → walk_of s k (in_node p seen) ≡ walk_to (p.next + length (unders (x ∷ xs))) l
      go (inl a) = leaf_on a k h
      go (inr a) = inner_on a k h

rest_on : (s : List ℕ) (d : ℕ) → KidsT s d → (ss : List (List Entry)) → RestT s d ss
rest_on s d kids [] p seen f size l r q k run fi at h =
    walk_last s k p seen true refl
    ∙ (let a : p.next ≡ p.next + 0 = omega arith in let b : p.left ≡ l = run.count
    ∙ (let z : l + 0 ≡ l = omega arith in z) in λ i. walk_to (a i) (b i))
rest_on s d kids (t ∷ ss) p seen f size l r q k run fi at h =
    walk_more s k p seen false refl
    ∙ node_on_lem s d kids t ss (rest_on s d kids ss) p seen f size l r q run (at t ss refl) k h

none_seen_lem : (n i : ℕ) → ◌≡◌ {A = ℕ} (get_or (replicate n 0) i 0) 0
none_seen_lem zero i = refl
none_seen_lem (suc n) zero = refl
none_seen_lem (suc n) (suc i) = none_seen_lem n i

module _
    (s : List ℕ) (d : ℕ) (kids : KidsT s d) (t : List Entry) (ss : List (List Entry)) (f at path : ℕ)
    (half : Half) (score : ℕ)
    (full : Bool) (left l : ℕ) (r : List ℕ)
    (of : Siblings path (half_number half) full (t ∷ ss)) (deep : 48 < path + suc d)
    (top : score + f ≡ highest t) (low : (path ≡ 0
    → ⊥)
    → f ≡ 0) (root : path ≡ 0 → score ≡ 0)
    (light : (u : List Entry) → u ∈ (t ∷ ss)
    → weight u < 2 ^ 32) (count : left ≡ l + length (flat (t ∷ ss))) (inside : at ≤ length s)
    (short : length (group_bytes f (nodes d (t ∷ ss))) < 2 ^ 32) (bytes : drop at s ≡ group_bytes f (nodes d (t ∷ ss))
    ++ r)
  where
    abbrev gx : List Node
    gx = nodes d (t ∷ ss)

    abbrev o : ℕ
    o = length (siblings f 0 0 gx)

    abbrev sibs : List ℕ
    sibs = siblings f (o + own_size o) (own_size o) gx

    abbrev e : ℕ
    e = at + length sibs

    g_fits : f < 2 ^ 32
    g_fits = let a = highest_fits path (half_number half) t (of.made t (inl refl)) in omega arith

    g_length : length (group_bytes f gx) ≡ length sibs + length (unders gx)
    unfolding group_bytes other_bytes
    g_length = length-append sibs (unders gx)

    g_bytes : drop at s ≡ sibs ++ (unders gx ++ r)
    unfolding group_bytes other_bytes
    g_bytes = bytes ∙ append_assoc sibs (unders gx) r

    g_some : 0 < length sibs
    g_some = let a = siblings-length f (o + own_size o) (own_size o) gx in omega arith

    g_own : any_inner gx ≡ true → ChildField true (o + own_size o) (own_size o)
    g_own y = field_own o (let a = siblings_own f (o + own_size o) (own_size o) gx y in let b = g_length in omega arith)

    g_back : any_inner gx ≡ true → o + own_size o ≡ e - at
    g_back y = let a = siblings_own f (o + own_size o) (own_size o) gx y in omega arith

    g_same : sibs ≡ siblings f (e - at) (own_size o) gx
    g_same =
        by_test (any_inner gx)
        (λ y. ap (λ w. siblings f w (own_size o) gx) (g_back y))
        (λ y. siblings-any f (o + own_size o) (own_size o) (e - at) (own_size o) gx y)

    g_there : drop e s ≡ unders gx ++ r
    g_there = sym (drop-drop (length sibs) at s) ∙ ap (drop (length sibs)) g_bytes
        ∙ drop_at sibs (unders gx ++ r) (length sibs) refl

    g_inside : e ≤ length s
    g_inside =
        let a = ap length g_bytes in
        let b = length-append sibs (unders gx ++ r) in
        let c = length-drop at s in
        omega arith

    g_runs : Runs s d (begin_group at e (above path half score full) left) none_seen f (own_size o) l (t ∷ ss) (unders gx
        ++ r) r
    g_runs =
        record {
          made = of.made;
          light = light;
          order = of.order;
          differ = of.differ;
          fresh = λ u m. none_seen_lem mark_count (mark_place (set_key u));
          array = length-replicate {A = ℕ} mark_count 0;
          fits = g_fits;
          field = λ y. subst (λ (w : ℕ). ChildField true w (own_size o)) (g_back y) (g_own y);
          count = count;
          before = let a = ap length g_same in omega arith;
          next = g_inside;
          deep = deep;
          here = g_bytes ∙ ap (λ w. w ++ (unders gx ++ r)) g_same;
          there = g_there;
        }

    g_at : At (begin_group at e (above path half score full) left) t ss f
    g_at =
        record {
          root = λ y. root;
          top = λ y. sym top;
          low = λ y. low;
          lone = λ y z. of.lone t (ap (λ w. t ∷ w) z);
          falls = λ y. absurd (false≢true (sym y));
          ties = λ y. absurd (false≢true (sym y));
        }

    sets_on : (k : ℕ) → 4 * (length s - at) < k
        → walk_of s k (in_group at (above path half score full) left) ≡ walk_to (at + length (group_bytes f gx)) l
    sets_on zero h = absurd (omega arith)
    sets_on (suc k) h =
        walk_group s k at (above path half score full) left e
        (ends s path (half_number half) d deep (t ∷ ss) at f (o + own_size o) (own_size o) (suc k) true (unders gx
        ++ r) of.made light g_fits g_own (omega arith) g_bytes (omega arith))
        ∙ node_on_lem s d kids t ss (rest_on s d kids ss) (begin_group at e (above path half score full) left) none_seen f
        (own_size o) l
        (unders gx ++ r) r g_runs g_at k
        (let a = g_some in let b = g_inside in omega arith)
        ∙ ap (λ w. walk_to w l) (let a = g_length in
        let y : e + length (unders gx) ≡ at + length (group_bytes f gx) = omega arith in y)

pub group_on :
    (s : List ℕ) (d : ℕ) (es : List Entry) (f at path : ℕ) (half : Half) (score : ℕ) (full : Bool)
    (left l k : ℕ) (r : List ℕ)
    → Suffixes path (half_number half) full es → 48 < path + d → score + f ≡ highest es
    → ((path ≡ 0 → ⊥) → f ≡ 0) → (path ≡ 0 → score ≡ 0) → weight es < 2 ^ 32 → left ≡ l + length es → at ≤ length s
    → drop at s ≡ group_of d f es ++ r → 4 * (length s - at) < k
    → walk_of s k (in_group at (above path half score full) left) ≡ walk_to (at + length (group_of d f es)) l
group_on s zero es f at path half score full left l k r h deep top low root light count inside bytes fuel = absurd
    (go es h.some h.short)
  where
    go : (fs : List Entry) → 0 < length fs → ((e : Entry) → e ∈ fs → path + length e.name ≤ 48) → ⊥
    go [] y z = omega arith
    go (e ∷ fs) y z = let a = z e (inl refl) in omega arith
group_on s (suc d) es f at path half score full left l k r h deep top low root light count inside bytes fuel =
    go (scattered es) refl (λ fs at' path' half' score' full' left' l' k' r' h' deep' top' pos' light' count' inside'
    bytes'
    fuel'.
    group_on s d fs 0 at' path' half' score' full' left' l' k' r' h' deep'
    (let a : score' + 0 ≡ score' = omega arith in a
    ∙ top') (λ z. refl) (λ z. absurd (omega arith)) light' count' inside' bytes' fuel')
  where
    same : group_of (suc d) f es ≡ group_bytes f (nodes d (scattered es))
    same = ap (group_bytes f) (scattered_nodes (group_of d 0) es)

    sets : Siblings path (half_number half) full (scattered es)
    sets = scatter path (half_number half) full es h

    go : (ss : List (List Entry)) → scattered es ≡ ss → KidsT s d
        → walk_of s k (in_group at (above path half score full) left) ≡ walk_to (at + length (group_of (suc d) f es)) l
    go [] z kids = absurd (let a = sets.some in let b = ap length z in omega arith)
    go (t ∷ ss) z kids =
        let same' : group_of (suc d) f es ≡ group_bytes f (nodes d (t ∷ ss)) = same
        ∙ ap (λ w. group_bytes f (nodes d w)) z in
        let sets' : Siblings path (half_number half) full (t ∷ ss) =
        subst (Siblings path (half_number half) full) z sets in
        let wt = scattered_weight es in
        sets_on s d kids t ss f at path half score full left l r sets' deep
        (top ∙ sym (scattered_top es) ∙ ap (λ w. highest (flat w)) z ∙ first_top t ss sets'.order)
        low
        root
        (λ u m. let a = weight_part u (t ∷ ss) m in let b = ap (λ w. weight (flat w)) z in omega arith)
        (count ∙ ap (λ w. l + w) (sym (scattered_length es) ∙ ap (λ w. length (flat w)) z))
        inside
        (let a = group_weight (suc d) f path (half_number half) full es h in let b = ap length same' in omega arith)
        (bytes ∙ ap (λ w. w ++ r) same')
        k fuel
        ∙ ap (λ w. walk_to (at + length w) l) (sym same')

-- What the check accepts is the image of entries.
use Prim.Native.Nat.{◌+◌, ◌-◌, ◌<◌, ◌^◌, ◌≤◌, suc, zero, ℕ}
use mathlib.Core.Path.{◌∙◌, ◌≡◌, ap, refl, subst, sym}
use mathlib.Core.Logic.{inl, inr}
use mathlib.Core.Bool.{Bool, ◌&&◌, false, false≢true, true}
use mathlib.Core.List.{List, [], ◌++◌, ◌∷◌, map}
use Rattle.std.specs.Prelude.{None, Option, Some}
use lib.Dec.{eqb, ltb}
use lib.ListN.{drop, get_or, length, length-append, length-replicate, length-set, set}
use lib.Seq.{get_or-set_other, get_or-set_same}
use native.Mathlib.Omega.{arith}
use borrow.Author.Tests.{eqb-false, eqb-true, lt-ltb, ltb-true}
use Rattle.octets.proofs.Numbers.{Bytes}
use Rattle.octets.proofs.Tests.{and_true_both, by_test}
use Rattle.octets.specs.Lists.{◌∈◌, if◌then◌otherwise◌}
use Rattle.octets.proofs.Lists.{some_in}
use Rattle.entries.specs.Entries.{Entry, entry}
use Rattle.entries_laws.proofs.Halves.{number_behind}
use Rattle.entries_laws.specs.Halves.{half_number}
use Rattle.entries_laws.specs.Signs.{half_after, no_half}
use Rattle.trie.proofs.Sets.{flat}
use Rattle.trie.proofs.Trie.{node_label, node_score, nodes}
use Rattle.trie.specs.Reading.{prefixed}
use Rattle.trie.specs.Trie.{Node, first_score, group_bytes, group_of, highest, is_last, label_of, node_bytes, node_of}
use Rattle.trie.specs.Trie.{siblings, size_of}
use Rattle.trie_group_laws.proofs.Groups.{Siblings, first_top, gather, gathered, gathered_length, gathered_nodes}
use Rattle.trie_group_laws.proofs.Groups.{gathered_top, set_before_lem, siblings-run, siblings-up}
use Rattle.trie_group_laws.proofs.Keys.{keys_differ}
use Rattle.trie_group_laws.proofs.Made.{IsInner, IsLeaf, Made, Suffixes, highest_more, inner, inner_facts, leaf}
use Rattle.trie_group_laws.proofs.Made.{leaf_facts, length_more, made_facts}
use Rattle.trie_group_laws.proofs.Sort.{chain}
use Rattle.trie_laws.specs.Keys.{key, set_before, set_key}
use Rattle.trie_check_laws.proofs.Heads.{Says, head_says}
use Rattle.trie_check_laws.proofs.Stand.{FieldsStand, stands_true}
use Rattle.trie_check_laws.proofs.Written.{GroupWritten, inner_under, leaf_under, written_group, written_inner}
use Rattle.trie_check_laws.proofs.Written.{written_leaf, written_none}
use Rattle.trie_check_laws.specs.Walk.{Task, above, after_inner, after_leaf, after_node, and_then, begin_group}
use Rattle.trie_check_laws.specs.Walk.{beneath, end_after, group_end, half_of, head_of, in_group, in_node, in_rest, into}
use Rattle.trie_check_laws.specs.Walk.{label_at, mark_count, mark_place, node_then, none_seen, score_of, stands}
use Rattle.trie_check_laws.specs.Walk.{walk_of, walk_to, whole_is}
use Rattle.trie_check_laws.specs.declared.Fields.{Fields}
use Rattle.trie_check_laws.specs.declared.Above.{Above}
use Rattle.trie_check_laws.specs.declared.Among.{Among}
use Rattle.trie_check_laws.specs.declared.WalkEnd.{WalkEnd}
use Rattle.trie_laws.proofs.Keys.{key-some, label_key}

abbrev pub is_nil : List (List Entry) → Bool
is_nil [] = true
is_nil (t ∷ ts) = false

-- a place where the check can stand
pub record AmongReady (s : List ℕ) (p : Among) (seen : List ℕ) : Type 0 where
  pub array : length seen ≡ mark_count
  pub next : p.next ≤ length s
  pub score : p.score < 2 ^ 32
  pub root : p.first ≡ true → p.path ≡ 0 → p.score ≡ 0

-- a group that was accepted
pub record GroupRead (s : List ℕ) (at : ℕ) (a : Above) (left q l : ℕ) : Type 0 where
  pub es : List Entry
  pub f : ℕ
  pub of : Suffixes a.path (half_number a.half) a.full es
  pub top : a.score + f ≡ highest es
  pub low : (a.path ≡ 0 → ⊥) → f ≡ 0
  pub count : left ≡ l + length es
  pub past : at < q
  pub within : q ≤ length s
  pub bytes : (d : ℕ) → 48 < a.path + d → drop at s ≡ group_of d f es ++ drop q s

-- siblings that were accepted, with what stands under them
pub record NodesAre (s : List ℕ) (p : Among) (seen : List ℕ) (q l : ℕ) : Type 0 where
  pub one : List Entry
  pub ss : List (List Entry)
  pub e : ℕ
  pub f : ℕ
  pub size : ℕ
  pub made : (t : List Entry) → t ∈ (one ∷ ss) → Made p.path (half_number p.half) (label_of t) (highest t) t
  pub differ : keys_differ (one ∷ ss)
  pub fresh : (t : List Entry) → t ∈ (one ∷ ss) → get_or seen (mark_place (set_key t)) 0 ≡ 0
  pub order : chain set_before (one ∷ ss)
  pub top : p.first ≡ true → highest one ≡ p.score + f
  pub low : p.first ≡ true → (p.path ≡ 0 → ⊥) → f ≡ 0
  pub lone : p.first ≡ true → ss ≡ [] → (p.full ≡ true) × (0 < set_key one)
  pub falls : p.first ≡ false → highest one + f ≡ p.score
  pub ties : p.first ≡ false → f ≡ 0 → p.key < set_key one
  pub count : p.left ≡ l + length (flat (one ∷ ss))
  pub past : p.at < e
  pub inside : e ≤ length s
  pub stop : (m : ℕ) × (group_end s m p.at ≡ Some e)
  pub on : p.next ≤ q
  pub within : q ≤ length s
  pub bytes : (d : ℕ) → 48 < p.path + suc d
      → GroupWritten s p.at p.next p.back p.own e q f size (nodes d (one ∷ ss))

-- what follows a node: nothing, or more siblings
pub record RestAre (s : List ℕ) (p : Among) (seen : List ℕ) (last : Bool) (q l : ℕ) : Type 0 where
  pub ss : List (List Entry)
  pub e : ℕ
  pub f : ℕ
  pub size : ℕ
  pub last_is : last ≡ is_nil ss
  pub made : (t : List Entry) → t ∈ ss → Made p.path (half_number p.half) (label_of t) (highest t) t
  pub differ : keys_differ ss
  pub fresh : (t : List Entry) → t ∈ ss → get_or seen (mark_place (set_key t)) 0 ≡ 0
  pub order : chain set_before ss
  pub falls : (t : List Entry) (ts : List (List Entry)) → ss ≡ t ∷ ts → highest t + f ≡ p.score
  pub ties : (t : List Entry) (ts : List (List Entry)) → ss ≡ t ∷ ts → f ≡ 0 → p.key < set_key t
  pub count : p.left ≡ l + length (flat ss)
  pub upto : p.at ≤ e
  pub inside : e ≤ length s
  pub stop : last ≡ false → (m : ℕ) × (group_end s m p.at ≡ Some e)
  pub halt : last ≡ true → e ≡ p.at
  pub on : p.next ≤ q
  pub within : q ≤ length s
  pub bytes : (d : ℕ) → 48 < p.path + suc d
      → GroupWritten s p.at p.next p.back p.own e q f size (nodes d ss)

rest_none : (s : List ℕ) (p : Among) (seen : List ℕ) (last : Bool) → last ≡ true → p.at ≤ length s
    → p.next ≤ length s → RestAre s p seen last p.next p.left
rest_none s p seen last t a b =
    record {
      ss = [];
      e = p.at;
      f = 0;
      size = size_of p.back;
      last_is = t;
      made = λ t m. absurd m;
      differ = tt;
      fresh = λ t m. absurd m;
      order = tt;
      falls = λ t ts z. absurd (let y : 0 ≡ suc (length ts) = ap length z in omega arith);
      ties = λ t ts z. absurd (let y : 0 ≡ suc (length ts) = ap length z in omega arith);
      count = omega arith;
      upto = omega arith;
      inside = a;
      stop = λ z. absurd (false≢true (sym z ∙ t));
      halt = λ z. refl;
      on = omega arith;
      within = b;
      bytes = λ d h. written_none s p.at p.next p.back p.own;
    }

rest_more : (s : List ℕ) (p : Among) (seen : List ℕ) (last : Bool) (q l : ℕ) → last ≡ false → p.first ≡ false
    → NodesAre s p seen q l → RestAre s p seen last q l
rest_more s p seen last q l t fi n =
    record {
      ss = n.one ∷ n.ss;
      e = n.e;
      f = n.f;
      size = n.size;
      last_is = t;
      made = n.made;
      differ = n.differ;
      fresh = n.fresh;
      order = n.order;
      falls = λ t ts z. let y : n.one ≡ t = cc in rw (← y) (n.falls fi);
      ties = λ t ts z. let y : n.one ≡ t = cc in rw (← y) (n.ties fi);
      count = n.count;
      upto = omega (arith, n.past);
      inside = n.inside;
      stop = λ z. n.stop;
      halt = λ z. absurd (false≢true (sym t ∙ z));
      on = n.on;
      within = n.within;
      bytes = n.bytes;
    }

made_self : {path half : ℕ} {l : List ℕ} {v : ℕ} {s : List Entry} → Made path half l v s
    → Made path half (label_of s) (highest s) s
made_self m = let f = made_facts m in rw (f.label, f.top) m

chain_cons : (s : List Entry) (ss : List (List Entry))
    → ((t : List Entry) (ts : List (List Entry)) → ss ≡ t ∷ ts → set_before s t ≡ true) → chain set_before ss
    → chain set_before (s ∷ ss)
chain_cons s [] h c = tt
chain_cons s (t ∷ ts) h c = (h t ts refl, c)

pub last_nodes : (b : List Entry → List ℕ) (ss : List (List Entry)) → is_last (map (node_of b) ss) ≡ is_nil ss
last_nodes b [] = refl
last_nodes b (t ∷ ts) = refl

first_in_lem : (t : List Entry) (ts ss : List (List Entry)) → ss ≡ t ∷ ts → t ∈ ss
first_in_lem t ts ss q = rw q (inl refl)

-- the next score field is the difference of the scores
same_field :
    (b : List Entry → List ℕ) (x : Node) (f back size : ℕ) (ss : List (List Entry))
    → ((t : List Entry) (ts : List (List Entry)) → ss ≡ t ∷ ts → highest t + f ≡ x.score)
    → siblings f back size (map (node_of b) ss) ≡ siblings (x.score - first_score (map (node_of b) ss)) back size
    (map (node_of b) ss)
same_field b x f back size [] h = refl
same_field b x f back size (t ∷ ts) h =
    let a = h t ts refl in
    let c = node_score b t in
    let q : f ≡ x.score - (node_of b t).score = omega arith in
    ap (λ g. siblings g back size (map (node_of b) (t ∷ ts))) q

end_last : (s : List ℕ) (at : ℕ) (n : Fields) → head_of s at ≡ Some n → n.last ≡ true
    → group_end s 1 at ≡ Some n.end
unfolding group_end
end_last s at n h t = rw (h, t)

end_more : (s : List ℕ) (at m e : ℕ) (n : Fields) → head_of s at ≡ Some n → n.last ≡ false
    → group_end s m n.end ≡ Some e → group_end s (suc m) at ≡ Some e
unfolding group_end
end_more s at m e n h t r = rw (h, t) r

-- marks have places
pub place_small : (k : ℕ) → mark_place k < mark_count
place_small k =
    by_test (ltb k mark_count)
    (λ t. let q = ltb-true k mark_count t in rw t (omega arith))
    (λ t. rw t (omega arith))

-- one node and what follows it
module _
    (s : List ℕ) (small : Bytes s) (p : Among) (seen : List ℕ) (n : Fields) (rd : AmongReady s p seen)
    (hd : head_of s p.at ≡ Some n) (st : FieldsStand p n)
    (fr : get_or seen (mark_place n.key) 0 ≡ 0)
  where
    sy : Says s p.at n
    sy = head_says s p.at small n hd

    place_bound : mark_place n.key < length seen
    place_bound = rw rd.array (place_small n.key)

    score_first : p.first ≡ true → score_of p n ≡ p.score + n.field
    score_first t =
        rw t
        (by_test (eqb p.path 0)
        (λ z. let c = rd.root t (eqb-true p.path 0 z) in rw z (omega arith))
        (λ z. let c = st.low t (eqb-false p.path 0 z) in rw z (omega arith)))

    score_bound : score_of p n < 2 ^ 32
    score_bound =
        let a = rd.score in
        let b = sy.fits in
        by_test p.first
        (λ t. rw t (by_test (eqb p.path 0) (λ z. rw z b) (λ z. rw z a)))
        (λ t. rw t (omega arith))

    next_ready : (nx bk lf : ℕ) (ow : Bool) → nx ≤ length s
        → AmongReady s (after_node p n nx bk ow lf) (set seen (mark_place n.key) 1)
    next_ready nx bk lf ow h =
        record {
          array = length-set seen (mark_place n.key) 1 ∙ rd.array;
          next = h;
          score = score_bound;
          root = λ t. absurd (false≢true t);
        }

    module _
        (q l nx bk lf : ℕ) (ow : Bool) (r : RestAre s (after_node p n nx bk ow lf) (set seen (mark_place n.key) 1)
        n.last q l)
        (one : List Entry)
        (made : Made p.path (half_number p.half) (label_of one) (highest one) one) (key_is : set_key one ≡ n.key)
        (top : highest one ≡ score_of p n)
      where
        apart : (t : List Entry) → t ∈ r.ss → (mark_place (set_key t) ≡ mark_place n.key → ⊥)
        apart t m z =
            let a = r.fresh t m in
            let b = get_or-set_same seen (mark_place n.key) 1 0 place_bound in
            let d : get_or (set seen (mark_place n.key) 1) (mark_place (set_key t)) 0 ≡ 1 = rw z b in
            omega arith

        differs : (t : List Entry) → t ∈ r.ss → (set_key one ≡ set_key t → ⊥)
        differs t m z = apart t m (ap mark_place (sym z ∙ key_is))

        fresh : (t : List Entry) → t ∈ (one ∷ r.ss) → get_or seen (mark_place (set_key t)) 0 ≡ 0
        fresh t (inl z) = rw (z, key_is) fr
        fresh t (inr m) =
            sym (get_or-set_other seen (mark_place n.key) (mark_place (set_key t)) 1 0 (apart t m)) ∙ r.fresh t m

        makes : (t : List Entry) → t ∈ (one ∷ r.ss) → Made p.path (half_number p.half) (label_of t) (highest t) t
        makes t (inl z) = rw z made
        makes t (inr m) = r.made t m

        before : (t : List Entry) (ts : List (List Entry)) → r.ss ≡ t ∷ ts → set_before one t ≡ true
        before t ts z =
            let m = first_in_lem t ts r.ss z in
            let fo = made_facts made in
            let ft = made_facts (r.made t m) in
            let ko = label_key one fo.run in
            let kt = label_key t ft.run in
            let a = r.falls t ts z in
            set_before_lem one t (λ y. differs t m (sym ko ∙ y ∙ kt))
            ∙ by_test (eqb (highest one) (highest t))
            (λ y.
            let w = eqb-true (highest one) (highest t) y in
            let b = r.ties t ts z (omega arith) in
            rw y (lt-ltb (key (label_of one)) (key (label_of t)) (omega arith)))
            (λ y. let w = eqb-false (highest one) (highest t) y in rw y (lt-ltb (highest t) (highest one) (less w a)))
          where
            less : (highest one ≡ highest t → ⊥) → highest t + r.f ≡ score_of p n → highest t < highest one
            less w a = omega arith

        stops : (m : ℕ) × (group_end s m p.at ≡ Some r.e)
        stops =
            by_test n.last
            (λ t. (1, rw (r.halt t) (end_last s p.at n hd t)))
            (λ t. let y = r.stop t in (suc y.0, end_more s p.at y.0 r.e n hd t y.1))

        nil_last : r.ss ≡ [] → n.last ≡ true
        nil_last z = r.last_is ∙ ap is_nil z

        node_are :
            (size : ℕ) → p.left ≡ lf + length one → p.next ≤ nx
            → ((d : ℕ) → 48 < p.path + suc d
            → GroupWritten s p.at p.next p.back p.own r.e q n.field size (nodes d (one ∷ r.ss)))
            → NodesAre s p seen q l
        node_are size cnt on w =
            record {
              one = one;
              ss = r.ss;
              e = r.e;
              f = n.field;
              size = size;
              made = makes;
              differ = (differs, r.differ);
              fresh = fresh;
              order = chain_cons one r.ss before r.order;
              top = λ t. top ∙ score_first t;
              low = st.low;
              lone =
                  λ t z.
                  let a = st.lone t (nil_last z) in
                  let b = key-some sy.label (λ y. a.1 (sym sy.is_len ∙ y)) in
                  let c = sy.is_key in
                  (a.0, omega arith);
              falls = λ t. let a = st.falls t in let b : score_of p n ≡ p.score - n.field = rw t in omega arith;
              ties = λ t z. let a = st.ties t z in omega arith;
              count = let a = r.count in let b = length-append one (flat r.ss) in omega arith;
              past = let a = sy.past in let b = r.upto in omega arith;
              inside = r.inside;
              stop = stops;
              on = let a = r.on in omega arith;
              within = r.within;
              bytes = w;
            }

    -- a leaf
    leaf_is : half_number (half_of s p n) ≡ no_half → IsLeaf p.path (half_number p.half) sy.label (score_of p n)
    leaf_is w =
        record {
          short = sy.short;
          allowed =
              ap (half_after (half_number p.half)) (sym sy.is_at) ∙ sym (number_behind p.half (label_at s n)) ∙ w;
          within = let a = st.within in let b = sy.is_len in omega arith;
          fits = score_bound;
          ends = λ y. some (λ x. (st.empty (sym sy.is_len ∙ x)).0 y);
        }
      where
        some : (length sy.label ≡ 0 → ⊥) → 0 < length sy.label
        some h = omega arith

    -- the bytes of the node
    node_bytes_lem :
        (b : List Entry → List ℕ) (one : List Entry) (ss : List (List Entry)) (c cs : ℕ) → label_of one ≡ sy.label
        → n.last ≡ is_nil ss → n.child ≡ c → n.size ≡ cs
        → drop p.at s ≡ node_bytes (node_of b one) n.field c cs (is_last (map (node_of b) ss)) ++ drop n.end s
    node_bytes_lem b one ss c cs lab la ch sz =
        sy.bytes (node_of b one) (node_label b one ∙ lab)
        ∙ (λ i. node_bytes (node_of b one) n.field (ch i) (sz i) ((la ∙ sym (last_nodes b ss)) i) ++ drop n.end s)

    leaf_step : (q l : ℕ) → n.size ≡ 0 → half_number (half_of s p n) ≡ no_half
        → RestAre s (after_leaf p n) (set seen (mark_place n.key) 1) n.last q l → NodesAre s p seen q l
    leaf_step q l z w r =
        let v = score_of p n in
        let one = entry sy.label (score_of p n) ∷ [] in
        let fa = leaf_facts p.path (half_number p.half) sy.label (score_of p n) (leaf_is w) in
        node_are q l p.next p.back (p.left - 1) p.own r one (made_self (leaf (leaf_is w))) sy.is_key
        fa.top r.size
        (let a = st.leaf z in omega arith)
        (omega arith)
        (λ d h.
        let b = group_of d 0 in
        let u = leaf_under (group_of d 0) sy.label (score_of p n) fa.label in
        written_leaf s p.at p.next p.back p.own r.e q n.field r.f r.size n.end
        (node_of (group_of d 0) one) (nodes d r.ss)
        (rw u) u
        (node_bytes_lem (group_of d 0) one r.ss 0 0 fa.label r.last_is (sy.none z) z)
        (same_field (group_of d 0) (node_of (group_of d 0) one) r.f p.back r.size r.ss
        (λ t ts y. r.falls t ts y ∙ sym fa.top ∙ sym (node_score (group_of d 0) one)))
        (r.bytes d h))

    -- a node with children
    module _ (ne : n.size ≡ 0 → ⊥) (m lf : ℕ)
        (g : GroupRead s p.next (above (p.path + n.len) (half_of s p n) (score_of p n) (eqb n.len 7)) p.left m
        lf) where
      len_some : 0 < length sy.label
      len_some = some (λ z. ne (st.empty (sym sy.is_len ∙ z)).1)
        where
          some : (length sy.label ≡ 0 → ⊥) → 0 < length sy.label
          some h = omega arith

      inner_is : IsInner p.path (half_number p.half) sy.label g.es
      inner_is =
          record {
            short = sy.short;
            some = len_some;
            below =
                rw sy.is_len
                (subst (λ w. Suffixes (p.path + n.len) (half_after (half_number p.half) w) (eqb n.len 7) g.es) sy.is_at
                (subst (λ h. Suffixes (p.path + n.len) h (eqb n.len 7) g.es) (number_behind p.half (label_at s n))
                g.of));
          }

      field_zero : g.f ≡ 0
      field_zero = g.low (λ z. let a = len_some in let b = sy.is_len in omega arith)

      inner_top : highest (prefixed sy.label g.es) ≡ score_of p n
      inner_top = highest_more sy.label g.es ∙ sym g.top ∙ (let a = field_zero in omega arith)

      inner_step : (q l : ℕ) → RestAre s (after_inner p n m lf) (set seen (mark_place n.key) 1) n.last q l
          → NodesAre s p seen q l
      inner_step q l r =
          let one = prefixed sy.label g.es in
          let fa = inner_facts p.path (half_number p.half) sy.label g.es inner_is in
          node_are q l m (m - p.next) lf false r one (made_self (inner inner_is))
          (sym (label_key one fa.run) ∙ ap key fa.label ∙ sy.is_key) inner_top n.size
          (g.count ∙ ap (λ k. lf + k) (sym (length_more sy.label g.es)))
          (omega (arith, g.past))
          (λ d h.
          written_inner s p.at p.next p.back p.own r.e m q n.field r.f n.size r.size
          n.end (node_of (group_of d 0) one) (nodes d r.ss)
          (group_of d 0 g.es)
          (inner_under (group_of d 0) sy.label g.es fa.label g.of.lone)
          g.past
          g.within
          (g.bytes d (let a = len_some in let b = sy.is_len in omega arith)
          ∙ ap (λ k. group_of d k g.es ++ drop m s) field_zero)
          (node_bytes_lem (group_of d 0) one r.ss p.back n.size fa.label r.last_is (st.child ne) refl)
          (same_field (group_of d 0) (node_of (group_of d 0) one) r.f (m - p.next) r.size r.ss
          (λ t ts y. r.falls t ts y ∙ sym inner_top ∙ sym (node_score (group_of d 0) one)))
          (λ o. st.size ne ∙ rw (o, st.child ne))
          (λ o. st.size ne ∙ rw (o, st.child ne))
          (r.bytes d h))

bad_next : {q l : ℕ} → None ≡ walk_to q l → ⊥
bad_next h = let z : ◌≡◌ {A = ℕ} 0 1 = cc in omega arith

pub no_end_lem : {a : ℕ} → None ≡ Some a → ⊥
no_end_lem h = let z : ◌≡◌ {A = ℕ} 0 1 = cc in omega arith

-- a group ends in one place, past its begin
end_unique : (s : List ℕ) (k m at a b : ℕ) → group_end s k at ≡ Some a → group_end s m at ≡ Some b → a ≡ b
unfolding group_end
end_unique s zero m at a b h g = absurd (no_end_lem h)
end_unique s (suc k) zero at a b h g = absurd (no_end_lem g)
end_unique s (suc k) (suc m) at a b h g = go (head_of s at) refl (λ e. end_unique s k m e a b)
  where
    go : (w : Option Fields) → head_of s at ≡ w
        → ((e : ℕ) → group_end s k e ≡ Some a → group_end s m e ≡ Some b → a ≡ b) → a ≡ b
    go None e ih = absurd (no_end_lem (sym (ap (λ w. end_after w (group_end s k)) e) ∙ h))
    go (Some n) e ih = both n.last refl
      where
        both : (t : Bool) → n.last ≡ t → a ≡ b
        both true t =
            let u : Some n.end ≡ Some a = sym (ap (λ w. end_after w (group_end s k)) e ∙ rw t) ∙ h in
            let v : Some n.end ≡ Some b = sym (ap (λ w. end_after w (group_end s m)) e ∙ rw t) ∙ g in
            cc
        both false t =
            ih n.end
            (sym (ap (λ w. end_after w (group_end s k)) e ∙ rw t) ∙ h)
            (sym (ap (λ w. end_after w (group_end s m)) e ∙ rw t) ∙ g)

pub end_past : (s : List ℕ) (small : Bytes s) (k at a : ℕ) → group_end s k at ≡ Some a → (at < a) × (a ≤ length s)
unfolding group_end
end_past s small zero at a h = absurd (no_end_lem h)
end_past s small (suc k) at a h = go (head_of s at) refl (λ e. end_past s small k e a)
  where
    go : (w : Option Fields) → head_of s at ≡ w
        → ((e : ℕ) → group_end s k e ≡ Some a → (e < a) × (a ≤ length s)) → (at < a)
        × (a ≤ length s)
    go None e ih = absurd (no_end_lem (sym (ap (λ w. end_after w (group_end s k)) e) ∙ h))
    go (Some n) e ih = both n.last refl
      where
        sy : Says s at n
        sy = head_says s at small n e

        both : (t : Bool) → n.last ≡ t → (at < a) × (a ≤ length s)
        both true t =
            let u : Some n.end ≡ Some a = sym (ap (λ w. end_after w (group_end s k)) e ∙ rw t) ∙ h in
            let v : n.end ≡ a = cc in
            let c = sy.past in
            let d = sy.within in
            (omega arith, omega arith)
        both false t =
            let r = ih n.end (sym (ap (λ w. end_after w (group_end s k)) e ∙ rw t) ∙ h) in
            let c = sy.past in
            (omega (arith, r.0), r.1)

group_step :
    (s : List ℕ) (k at e : ℕ) (a : Above) (left q l : ℕ) → group_end s k at ≡ Some e
    → NodesAre s (begin_group at e a left) none_seen q l → GroupRead s at a left q l
group_step s k at e a left q l h n =
    record {
      es = gathered ss;
      f = n.f;
      of = suffixes;
      top = sym (gathered_top ss ∙ first_top n.one n.ss n.order ∙ n.top refl);
      low = n.low refl;
      count = n.count ∙ ap (λ k. l + k) (sym (gathered_length ss));
      past = let b : at < n.e = n.past in let c : e ≤ q = n.on in omega (arith, end_is);
      within = n.within;
      bytes = bytes;
    }
  where
    ss : List (List Entry)
    ss = n.one ∷ n.ss

    end_is : n.e ≡ e
    end_is = end_unique s n.stop.0 k at n.e e n.stop.1 h

    sets : Siblings a.path (half_number a.half) a.full ss
    sets =
        record {
          some = omega arith;
          made = n.made;
          differ = n.differ;
          order = n.order;
          lone = λ t y. let b : n.ss ≡ [] = cc in let c : n.one ≡ t = cc in rw (← c) (n.lone refl b);
        }

    suffixes : Suffixes a.path (half_number a.half) a.full (gathered ss)
    suffixes = gather a.path (half_number a.half) a.full ss sets

    bytes : (d : ℕ) → 48 < a.path + d → drop at s ≡ group_of d n.f (gathered ss) ++ drop q s
    bytes zero y = absurd (let i = some_in (gathered ss) suffixes.some in let b = suffixes.short i.0 i.1 in
        omega arith)
    bytes (suc d) y =
        written_group s at e q n.f n.size (nodes d ss) (let b = n.past in
        omega (arith, end_is)) (let b = n.inside in omega (arith, end_is))
        (subst (λ (x : ℕ). GroupWritten s at e (e - at) true x q n.f n.size (nodes d ss)) end_is (n.bytes d y))
        ∙ ap (λ xs. group_bytes n.f xs ++ drop q s)
        (sym (gathered_nodes ss (siblings-run a.path (half_number a.half) a.full ss sets)
        (siblings-up a.path (half_number a.half) a.full ss sets) n.differ (group_of d 0) n.order))

abbrev pub SoundT : List ℕ → Task → ℕ → ℕ → Type 0
SoundT s (in_group at a left) q l = a.score < 2 ^ 32 → (a.path ≡ 0 → a.score ≡ 0) → GroupRead s at a left q l
SoundT s (in_node p seen) q l = AmongReady s p seen → NodesAre s p seen q l
SoundT s (in_rest p seen last) q l = AmongReady s p seen → p.first ≡ false → p.at ≤ length s
    → RestAre s p seen last q l

module _ (s : List ℕ) (small : Bytes s) (k : ℕ) (ih : (t : Task) (q l : ℕ) → walk_of s k t ≡ walk_to q l
    → SoundT s t q l) where
  sound_group : (at : ℕ) (a : Above) (left q l : ℕ) (w : Option ℕ) → group_end s (suc k) at ≡ w
      → into w (λ e. walk_of s k (in_node (begin_group at e a left) none_seen)) ≡ walk_to q l
      → SoundT s (in_group at a left) q l
  sound_group at a left q l None h r b c = absurd (bad_next r)
  sound_group at a left q l (Some e) h r b c =
      let g = end_past s small (suc k) at e h in
      group_step s (suc k) at e a left q l h
      (ih (in_node (begin_group at e a left) none_seen) q l r
      (record { array = length-replicate {A = ℕ} mark_count 0; next = g.1; score = b; root = λ t. c }))

  sound_rest : (p : Among) (seen : List ℕ) (last : Bool) (q l : ℕ)
      → (if last then walk_to p.next p.left otherwise walk_of s k (in_node p seen)) ≡ walk_to q l
      → SoundT s (in_rest p seen last) q l
  sound_rest p seen last q l h rd fi at =
      by_test last
      (λ t.
      let u : walk_to p.next p.left ≡ walk_to q l = rw t at h in
      let w : ◌≡◌ {A = WalkEnd} (record { end = p.next; left = p.left }) (record { end = q; left = l }) = cc in
      let a = ap (λ v. v.end) w in
      let b = ap (λ v. v.left) w in
      rw (← a, ← b) (rest_none s p seen last t at rd.next))
      (λ t. rest_more s p seen last q l t fi (ih (in_node p seen) q l (rw t at h) rd))

  sound_inner :
      (p : Among) (seen : List ℕ) (n : Fields) (q l : ℕ) → AmongReady s p seen → head_of s p.at ≡ Some n
      → FieldsStand p n
      → get_or seen (mark_place n.key) 0 ≡ 0 → (n.size ≡ 0 → ⊥)
      → (w : Option WalkEnd) → walk_of s k (beneath s p n) ≡ w
      → and_then w (λ m lf. walk_of s k (in_rest (after_inner p n m lf) (set seen (mark_place n.key) 1) n.last)) ≡
      walk_to q l
      → NodesAre s p seen q l
  sound_inner p seen n q l rd hd st fr ne None e h = absurd (bad_next h)
  sound_inner p seen n q l rd hd st fr ne (Some w) e h =
      let sy = head_says s p.at small n hd in
      let g =
      ih (beneath s p n) w.end w.left e (score_bound s small p seen n rd hd st fr)
      (λ z. absurd (ne (st.empty (omega arith)).1))
      in
      inner_step s small p seen n rd hd st fr ne w.end w.left g q l
      (ih (in_rest (after_inner p n w.end w.left) (set seen (mark_place n.key) 1) n.last) q l h
      (next_ready s small p seen n rd hd st fr w.end (w.end - p.next) w.left false g.within) refl sy.within)

  sound_node : (p : Among) (seen : List ℕ) (q l : ℕ) (w : Option Fields) → head_of s p.at ≡ w
      → node_then w s p seen (walk_of s k) ≡ walk_to q l → SoundT s (in_node p seen) q l
  sound_node p seen q l None e h rd = absurd (bad_next h)
  sound_node p seen q l (Some n) e h rd =
      by_test (stands p n && eqb (get_or seen (mark_place n.key) 0) 0)
      (λ t.
      let a = and_true_both (stands p n) (eqb (get_or seen (mark_place n.key) 0) 0) t in
      let st = stands_true p n a.0 in
      let fr = eqb-true (get_or seen (mark_place n.key) 0) 0 a.1 in
      let sy = head_says s p.at small n e in
      by_test (eqb n.size 0)
      (λ z.
      by_test (eqb (half_number (half_of s p n)) no_half)
      (λ w.
      leaf_step s small p seen n rd e st fr q l (eqb-true n.size 0 z) (eqb-true (half_number (half_of s p n)) no_half w)
      (ih (in_rest (after_leaf p n) (set seen (mark_place n.key) 1) n.last) q l (rw (t, z, w) at h)
      (next_ready s small p seen n rd e st fr p.next p.back (p.left - 1) p.own rd.next) refl
      sy.within))
      (λ w. absurd (bad_next (rw (t, z, w) at h))))
      (λ z.
      sound_inner p seen n q l rd e st fr (eqb-false n.size 0 z)
      (walk_of s k (beneath s p n)) refl (rw (t, z) at h)))
      (λ t. absurd (bad_next (rw t at h)))

pub sound : (s : List ℕ) (small : Bytes s) (k : ℕ) (t : Task) (q l : ℕ) → walk_of s k t ≡ walk_to q l → SoundT s t q l
unfolding walk_of
sound s small zero t q l h = absurd (bad_next h)
sound s small (suc k) (in_group at a left) q l h = sound_group s small k (sound s small k) at a left q l
    (group_end s (suc k) at) refl h
sound s small (suc k) (in_node p seen) q l h = sound_node s small k (sound s small k) p seen q l (head_of s p.at) refl
    h
sound s small (suc k) (in_rest p seen last) q l h = sound_rest s small k (sound s small k) p seen last q l h

-- the whole image ends at the total length, with no entries to come
pub whole_to : (w : Option WalkEnd) (total : ℕ) → whole_is w total ≡ true → w ≡ walk_to total 0
whole_to None total h = absurd (false≢true h)
whole_to (Some w) total h =
    let a = and_true_both (eqb w.end total) (eqb w.left 0) h in
    let b = eqb-true w.end total a.0 in
    let c = eqb-true w.left 0 a.1 in
    λ i. walk_to (b i) (c i)

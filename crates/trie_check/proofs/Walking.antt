-- The walk step by step: a node, the siblings behind it, a group; each with all the turns that suffice.
use Prim.Native.Nat.{◌*◌, ◌+◌, ◌-◌, ◌<◌, ◌≤◌, suc, zero, ℕ}
use mathlib.Core.Path.{◌∙◌, ◌≡◌, ap, refl, subst, sym}
use mathlib.Core.Bool.{Bool, false, true}
use mathlib.Core.List.{List}
use lib.Dec.{eqb}
use lib.ListN.{get_or, length, length-replicate, length-set, set}
use native.Mathlib.Omega.{arith}
use borrow.Author.Tests.{eq-eqb, ne_eqb}
use Rattle.octets.proofs.Numbers.{Bytes}
use Rattle.octets.proofs.Tests.{by_test}
use Rattle.std.specs.Prelude.{None, Option, Some}
use Rattle.entries_laws.specs.Halves.{half_number}
use Rattle.entries_laws.specs.Signs.{no_half}
use Rattle.trie_check_laws.specs.Walk.{after_inner, and_then, begin_group, behind_group, behind_leaf}
use Rattle.trie_check_laws.specs.Walk.{beneath, end_after, group_end, half_of, head_of, in_node, in_rest, into}
use Rattle.trie_check_laws.specs.Walk.{mark_count, mark_place, node_on, node_then, none_seen, reached_by}
use Rattle.trie_check_laws.specs.Walk.{stands, walk_of, walk_to}
use Rattle.trie_check_laws.proofs.Sound.{end_past, no_end_lem}
use Rattle.trie_check_laws.proofs.Stand.{FieldsStand, stands_true}
use Rattle.trie_check_fields.specs.Known.{EndIs, EndKnown}
use Rattle.trie_check_fields.proofs.Heads.{Read}
use Rattle.trie_check.specs.Known.{GroupIs, NodeIs, NodeKnown}
use Rattle.trie_check_laws.specs.declared.Fields.{Fields}
use Rattle.trie_check_laws.specs.declared.Above.{Above}
use Rattle.trie_check_laws.specs.declared.Among.{Among}
use Rattle.trie_check_laws.specs.declared.WalkEnd.{WalkEnd}

-- A node that stands in its place, and what is below it.
module _ (p : Among) (n : Fields) (ok : stands p n ≡ true) where
  stood : FieldsStand p n
  stood = stands_true p n ok

  pub falls : p.first ≡ false → n.field ≤ p.score
  falls = stood.falls

  pub some_left : n.size ≡ 0 → 1 ≤ p.left
  some_left z = let a = stood.leaf z in omega arith

  pub path_short : p.path + n.len ≤ 48
  path_short = stood.within

onward_of : {w : Option Among} {q : Among} {p n : ℕ} → w ≡ Some q → NodeKnown w p n → (p ≤ q.next)
    × (q.next ≤ n)
onward_of {p = p} {n = n} e a = subst (λ x. NodeKnown x p n) e a

pub end_of : {w : Option ℕ} {e at n : ℕ} → w ≡ Some e → EndKnown w at n → (at < e) × (e ≤ n)
end_of {at = at} {n = n} q a = subst (λ x. EndKnown x at n) q a

-- The node in a place and the siblings behind it.
abbrev pub RestIs : List ℕ → Among → List ℕ → Option WalkEnd → Type 0
RestIs s p seen r = (k : ℕ) → 2 * (length s - p.at) + 2 * (length s - p.next) < k → r ≡ walk_of s k (in_node p seen)

pub rest_cut : (s : List ℕ) (p : Among) (seen : List ℕ) {w : Option Fields} → w ≡ head_of s p.at → w ≡ None
    → RestIs s p seen None
unfolding walk_of
rest_cut s p seen e q zero lt = absurd (omega arith)
rest_cut s p seen e q (suc k) lt = sym (ap (λ x. node_then x s p seen (walk_of s k)) (sym e ∙ q))

-- what follows a node, from the place behind it
abbrev then : Option Among → (Among → Option WalkEnd) → Option WalkEnd
then None f = None
then (Some q) f = f q

by_group : (p : Among) (n : Fields) (v : Option WalkEnd) (f : Among → Option WalkEnd)
    → and_then v (λ m left. f (after_inner p n m left)) ≡ then (behind_group v p n) f
by_group p n None f = refl
by_group p n (Some w) f = refl

-- the place behind a node is where it ends
reached_end : (s : List ℕ) (p : Among) (n : Fields) (v : Option WalkEnd) {q : Among} → Some q ≡ reached_by s p n v
    → q.at ≡ n.end
reached_end s p n v e =
    by_test (eqb n.size 0)
    (λ t. ended (eqb (half_number (half_of s p n)) no_half) (rw t at e))
    (λ t. inner v (rw t at e))
  where
    leaf : {q r : Among} → Some q ≡ Some r → q.at ≡ r.at
    leaf h = cc

    ended : {q : Among} (b : Bool) → Some q ≡ behind_leaf b p n → q.at ≡ n.end
    ended true h = leaf h
    ended false h = absurd (let z : ◌≡◌ {A = ℕ} 0 1 = cc in omega arith)

    inner : {q : Among} (w : Option WalkEnd) → Some q ≡ behind_group w p n → q.at ≡ n.end
    inner None h = absurd (let z : ◌≡◌ {A = ℕ} 0 1 = cc in omega arith)
    inner (Some w) h = leaf h

module _ (s : List ℕ) (p : Among) (seen : List ℕ) (n : Fields) (r : Read s p.at n) where
  pub rest_out : stands p n ≡ false → RestIs s p seen None
  unfolding walk_of
  rest_out t zero lt = absurd (omega arith)
  rest_out t (suc k) lt = sym (ap (λ x. node_then x s p seen (walk_of s k)) r.head ∙ rw t)

  module _ (ok : stands p n ≡ true) where
    pub rest_twice : (get_or seen (mark_place n.key) 0 ≡ 0 → ⊥) → RestIs s p seen None
    unfolding walk_of
    rest_twice g zero lt = absurd (omega arith)
    rest_twice g (suc k) lt = sym (ap (λ x. node_then x s p seen (walk_of s k)) r.head
        ∙ rw (ok, ne_eqb (get_or seen (mark_place n.key) 0) 0 g))

    module _ (new : get_or seen (mark_place n.key) 0 ≡ 0) (before : p.at < p.next) (within : p.next ≤ length s)
        {w : Option Among}
        (i : NodeIs s p n w) where
      abbrev marked : List ℕ
      marked = set seen (mark_place n.key) 1

      by_place : (k : ℕ) → node_on (eqb n.size 0) s p seen n (walk_of s k) ≡ then
          (reached_by s p n (walk_of s k (beneath s p n))) (λ q. walk_of s k (in_rest q marked n.last))
      by_place k =
          by_test (eqb n.size 0)
          (λ t. by_test (eqb (half_number (half_of s p n)) no_half) (λ u. rw (t, u)) (λ u. rw (t, u)))
          (λ t. rw t (by_group p n (walk_of s k (beneath s p n)) (λ q. walk_of s k (in_rest q marked n.last))))

      step : (k : ℕ) → 4 * (length s - p.next) < k
          → walk_of s (suc k) (in_node p seen) ≡ then w (λ q. walk_of s k (in_rest q marked n.last))
      unfolding walk_of
      step k lt =
          ap (λ x. node_then x s p seen (walk_of s k)) r.head
          ∙ rw (ok, eq-eqb (get_or seen (mark_place n.key) 0) 0 new) (by_place k)
          ∙ ap (λ x. then x (λ q. walk_of s k (in_rest q marked n.last))) (sym (i k lt))

      rest_bad : w ≡ None → RestIs s p seen None
      rest_bad e zero lt = absurd (omega arith)
      rest_bad e (suc k) lt = sym (step k (omega arith)
          ∙ ap (λ x. then x (λ q. walk_of s k (in_rest q marked n.last))) e)

      module _ {q : Among} (e : w ≡ Some q) where
        at_rest : (k : ℕ) → 4 * (length s - p.next) < k
            → walk_of s (suc k) (in_node p seen) ≡ walk_of s k (in_rest q marked n.last)
        at_rest k lt = step k lt ∙ ap (λ x. then x (λ q. walk_of s k (in_rest q marked n.last))) e

        next_at : q.at ≡ n.end
        next_at = reached_end s p n (walk_of s (suc (4 * length s)) (beneath s p n)) (sym e
            ∙ i (suc (4 * length s)) (omega arith))

        rest_last : n.last ≡ true → RestIs s p seen (walk_to q.next q.left)
        unfolding walk_of
        rest_last t zero lt = absurd (omega arith)
        rest_last t (suc zero) lt = absurd (let a = r.past in let b = r.within in omega arith)
        rest_last t (suc (suc k)) lt = sym (at_rest (suc k) (omega arith) ∙ rw t)

        rest_more : n.last ≡ false → p.next ≤ q.next → {d : Option WalkEnd} → RestIs s q marked d → RestIs s p seen d
        unfolding walk_of
        rest_more t on i zero lt = absurd (omega arith)
        rest_more t on i (suc zero) lt = absurd (let a = r.past in let b = r.within in omega arith)
        rest_more t on i (suc (suc k)) lt =
            let a = r.past in
            let b = r.within in
            let c = next_at in
            i k (omega arith) ∙ sym (at_rest (suc k) (omega arith) ∙ rw t)

-- A group. It ends at e, with some number of turns.
abbrev Stops : List ℕ → ℕ → ℕ → Type 0
Stops s at e = (m : ℕ) × (group_end s m at ≡ Some e)

stops_on : (s : List ℕ) (at e : ℕ) (n : Fields) → Stops s at e → Read s at n → n.last ≡ false → Stops s n.end e
unfolding group_end
stops_on s at e n h r t = go h.0 h.1
  where
    go : (m : ℕ) → group_end s m at ≡ Some e → Stops s n.end e
    go zero q = absurd (no_end_lem q)
    go (suc m) q = (m, sym (ap (λ x. end_after x (group_end s m)) r.head ∙ rw t) ∙ q)

pub group_bad :
    (s : List ℕ) (at : ℕ) (a : Above) (left : ℕ) {w : Option ℕ} → EndIs s at w → w ≡ None
    → GroupIs s at a left None
unfolding walk_of
group_bad s at a left i q zero lt = absurd (omega arith)
group_bad s at a left i q (suc k) lt =
    sym (ap (λ o. into o (λ e. walk_of s k (in_node (begin_group at e a left) none_seen)))
    (sym (i (suc k) (omega arith)) ∙ q))

-- Among the siblings of the group at `at`, which ends at e: what is walked from the place p on gives the walk over the
-- whole group.
pub record GroupGoing (s : List ℕ) (at : ℕ) (a : Above) (left e : ℕ) (p : Among) (seen : List ℕ) : Type 0
  where
    pub array : length seen ≡ mark_count
    pub onto : (r : Option WalkEnd) → RestIs s p seen r → GroupIs s at a left r
    pub stops : Stops s p.at e
    pub past : at < e
    pub on : e ≤ p.next
    pub within : p.next ≤ length s

pub going_start :
    (s : List ℕ) (at : ℕ) (a : Above) (left e : ℕ) {w : Option ℕ} → EndIs s at w → w ≡ Some e
    → EndKnown w at (length s)
    → {p : Among} → p ≡ begin_group at e a left → GroupGoing s at a left e p none_seen
unfolding walk_of
going_start s at a left e {w} i q known {p} b =
    let m = end_of q known in
    subst (λ x. GroupGoing s at a left e x none_seen) (sym b)
    (record {
      array = length-replicate {A = ℕ} mark_count 0;
      onto = onto;
      stops = (suc (length s), ends (suc (length s)) (omega arith));
      past = m.0;
      on = omega arith;
      within = m.1;
    })
  where
    ends : (k : ℕ) → length s - at < k → group_end s k at ≡ Some e
    ends k lt = sym (i k lt) ∙ q

    onto : (r : Option WalkEnd) → RestIs s (begin_group at e a left) none_seen r
        → GroupIs s at a left r
    onto r j zero lt = absurd (omega arith)
    onto r j (suc k) lt =
        let m = end_of q known in
        j k (omega (arith, m.0, m.1))
        ∙ sym (ap (λ o. into o (λ c. walk_of s k (in_node (begin_group at c a left) none_seen)))
        (ends (suc k) (omega arith)))

module _ {s : List ℕ} {at : ℕ} {a : Above} {left e : ℕ} {p : Among} {seen : List ℕ}
    (g : GroupGoing s at a left e p seen) where
  going_before : Bytes s → p.at < p.next
  going_before y = let b = end_past s y g.stops.0 p.at e g.stops.1 in omega (arith, b.0, g.on)

  module _
      (b : Bytes s) {n : Fields} (r : Read s p.at n) (ok : stands p n ≡ true)
      (new : get_or seen (mark_place n.key) 0 ≡ 0)
      {w : Option Among}
      (i : NodeIs s p n w) (o : NodeKnown w p.next (length s))
    where
      pub going_bad : w ≡ None → GroupIs s at a left None
      going_bad q = g.onto None (rest_bad s p seen n r ok new (going_before b) g.within i q)

      module _ {q : Among} (h : w ≡ Some q) where
        pub going_last : n.last ≡ true → GroupIs s at a left (walk_to q.next q.left)
        going_last t = g.onto (walk_to q.next q.left)
            (rest_last s p seen n r ok new (going_before b) g.within i h t)

        pub going_on : n.last ≡ false → GroupGoing s at a left e q (set seen (mark_place n.key) 1)
        going_on t =
            let c = onward_of h o in
            record {
              array = length-set seen (mark_place n.key) 1 ∙ g.array;
              onto = λ d j. g.onto d (rest_more s p seen n r ok new (going_before b) g.within i h t c.0 j);
              stops = subst (λ x. Stops s x e) (sym (next_at s p seen n r ok new (going_before b) g.within i h))
                  (stops_on s p.at e n g.stops r t);
              past = g.past;
              on = omega (arith, g.on, c.0);
              within = c.1;
            }

        -- the bytes from the place on are fewer
        pub going_less : length s - q.at < length s - p.at
        going_less = let c = next_at s p seen n r ok new (going_before b) g.within i h in
            omega (arith, c, r.past, r.within)

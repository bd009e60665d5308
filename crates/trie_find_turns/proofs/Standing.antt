-- Nodes that wait stand for nodes of a forest: the steps, the order, the turns.
use Prim.Native.Nat.{◌+◌, ◌-◌, ◌≤◌, ℕ}
use mathlib.Core.Path.{◌∙◌, ◌≡◌, ap, refl, sym}
use mathlib.Core.Bool.{false, false≢true}
use mathlib.Core.List.{List, ◌++◌}
use lib.ListN.{drop, length, length-append, length-drop, length-take, take}
use lib.Seq.{length-sets, sets, take_at, take-take}
use native.Mathlib.Omega.{arith}
use Rattle.octets.proofs.Stores.{take-sets}
use Rattle.entries.specs.Names.{longest_name}
use Rattle.trie.specs.Reading.{label_length}
use Rattle.trie_find_laws.specs.Places.{ForestAt, from_behind, header_at, is_leaf_at, is_none, label_at, label_from}
use Rattle.trie_find_laws.specs.Places.{score_field_at}
use Rattle.trie_find_laws.specs.Search.{Forest, none, tree}
use Rattle.trie_find_queue.specs.declared.WaitingNode.{WaitingNode}
use Rattle.trie_find_steps.specs.Steps.{ChildRoom, NextRoom, NodeInside, arrive_at, behind_of, child_index, first_child}
use Rattle.trie_find_steps.specs.Steps.{front_of, next_sibling}
use Rattle.trie_find_turns.specs.Turns.{Is}

-- the label is as long as the header says
pub label_long : (bs : List ℕ) (at : ℕ) → NodeInside bs at → length (label_at bs at) ≡ label_length (header_at bs at)
label_long bs at h =
    let a = length-take (label_length (header_at bs at)) (drop (label_from bs at) bs) in
    let b = length-drop (label_from bs at) bs in
    omega arith

-- a node of a forest where it stands, reached behind its path
pub here_is :
    (bs path p : List ℕ) (len score at from : ℕ) (l : List ℕ) (s : ℕ) (kids next : Forest)
    → length path ≡ longest_name → take len path ≡ p → len ≡ length p → score ≡ s
    → ForestAt bs p at from (tree l s kids next)
    → Is bs (arrive_at bs path len score at from) p l s kids next
unfolding arrive_at
here_is bs path p len score at from l s kids next a b c d st =
    let n = st.0 in
    let lab = n.label in
    let k = label_long bs at n.inside in
    let e : length l ≡ label_length (header_at bs at) = ap length (sym lab) ∙ k in
    let f = n.short in
    let room : len + length (label_at bs at) ≤ length path = omega arith in
    record {
      array = length-sets path len (label_at bs at) ∙ a;
      path = ap (λ n. take (len + n) (sets path len (label_at bs at))) (sym k)
          ∙ take-sets path len (label_at bs at) room ∙ (λ j. b j ++ lab j);
      len = omega arith;
      score = d;
      last = st.1;
      node = n;
      top = st.2;
      lower = st.3;
      under = st.4;
      beside = st.5;
    }

pub is_short : (bs : List ℕ) (x : WaitingNode) (p l : List ℕ) (s : ℕ) (kids next : Forest) → Is bs x p l s kids next
    → x.len ≤ longest_name
is_short bs x p l s kids next i = let a = i.len in let b = i.node.short in omega arith

module _ (bs : List ℕ) (x : WaitingNode) (p l : List ℕ) (s : ℕ) (a : List ℕ) (b : ℕ) (c d next : Forest)
    (i : Is bs x p l s (tree a b c d) next) where
  whole_length : length (p ++ l) ≡ x.len
  whole_length = length-append p l ∙ sym i.len

  pub child_is : Is bs (first_child bs x) (p ++ l) a b c d
  child_is =
      here_is bs x.path (p ++ l) x.len x.score (child_index bs x) (child_index bs x) a b c d i.array i.path
      (sym whole_length) (i.score ∙ sym i.top) i.under

  pub child_room : ChildRoom bs x
  child_room =
      let n = i.under.0 in
      let e = ap length (sym n.label) ∙ label_long bs (child_index bs x) n.inside in
      let w = whole_length in
      let f = n.short in
      let g = n.inside in
      record { here = i.node.inside; below = omega arith; child = (n.inside, omega arith) }

module _ (bs : List ℕ) (x : WaitingNode) (p l : List ℕ) (s : ℕ) (kids : Forest) (a : List ℕ) (b : ℕ) (c d : Forest)
    (i : Is bs x p l s kids (tree a b c d)) where
  own_length : length l ≡ label_length (header_at bs x.at)
  own_length = ap length (sym i.node.label) ∙ label_long bs x.at i.node.inside

  front_length : front_of bs x ≡ length p
  front_length = let e = own_length in let f = i.len in omega arith

  front_path : take (front_of bs x) x.path ≡ p
  front_path =
      let e = front_length in
      let f = i.len in
      sym (take-take (front_of bs x) x.len x.path (omega arith)) ∙ ap (take (front_of bs x)) i.path
      ∙ take_at p l (front_of bs x) (sym e)

  pub next_is : Is bs (next_sibling bs x) p a b c d
  next_is =
      let e : b + score_field_at bs (behind_of bs x) ≡ s = i.lower in
      let f = i.score in
      here_is bs x.path p (front_of bs x) (x.score - score_field_at bs (behind_of bs x)) (behind_of bs x)
      (from_behind bs x.at x.from) a b c d i.array front_path front_length
      (omega arith) i.beside

  below-inside : (k : Forest) → is_leaf_at bs x.at ≡ is_none k
      → ForestAt bs (p ++ l) (child_index bs x) (child_index bs x) k
      → is_leaf_at bs x.at ≡ false → child_index bs x ≤ length bs
  below-inside none e st h = absurd (false≢true (sym h ∙ e))
  below-inside (tree a b c d) e st h = let n = st.0.inside in omega arith

  pub next_room : NextRoom bs x
  next_room =
      let n = i.beside.0 in
      let e = ap length (sym n.label) ∙ label_long bs (behind_of bs x) n.inside in
      let o = own_length in
      let f = front_length in
      let g = n.short in
      let j = i.len in
      let k : b + score_field_at bs (behind_of bs x) ≡ s = i.lower in
      let m = i.score in
      record {
        here = i.node.inside;
        below = below-inside kids i.node.leaf i.under;
        own = omega arith;
        lower = omega arith;
        next = (n.inside, omega arith);
      }

-- where a step leads
arrive_at_lem : (bs path : List ℕ) (len score at from : ℕ) → (arrive_at bs path len score at from).at ≡ at
unfolding arrive_at
arrive_at_lem bs path len score at from = refl

pub child_at : (bs : List ℕ) (x : WaitingNode) → (first_child bs x).at ≡ child_index bs x
child_at bs x = arrive_at_lem bs x.path x.len x.score (child_index bs x) (child_index bs x)

pub next_at : (bs : List ℕ) (x : WaitingNode) → (next_sibling bs x).at ≡ behind_of bs x
next_at bs x = arrive_at_lem bs x.path (front_of bs x) (x.score - score_field_at bs (behind_of bs x)) (behind_of bs x)
    (from_behind bs x.at x.from)

arrive_len : (bs path : List ℕ) (len score at from : ℕ)
    → (arrive_at bs path len score at from).len ≡ len + label_length (header_at bs at)
unfolding arrive_at
arrive_len bs path len score at from = refl

pub next_short : (bs : List ℕ) (x : WaitingNode) → NextRoom bs x → (next_sibling bs x).len ≤ longest_name
next_short bs x r =
    let e = arrive_len bs x.path (front_of bs x) (x.score - score_field_at bs (behind_of bs x)) (behind_of bs x)
    (from_behind bs x.at x.from) in
    omega (arith, r.next.1)

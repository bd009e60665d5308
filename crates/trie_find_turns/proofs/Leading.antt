-- The way from a first sibling to the node that a prefix leads to.
use Prim.Native.Nat.{◌<◌, ◌≤◌, ℕ}
use mathlib.Core.Path.{◌∙◌, ◌≡◌, refl, sym}
use mathlib.Core.Bool.{false, false≢true, true}
use mathlib.Core.List.{List, [], ◌++◌, ◌∷◌}
use lib.ListN.{length}
use native.Mathlib.Omega.{arith}
use Rattle.octets.specs.Octets.{begins}
use Rattle.octets.proofs.Tests.{by_test}
use Rattle.entries.specs.Names.{longest_name}
use Rattle.trie_find_laws.specs.Descend.{descend}
use Rattle.trie_find_laws.specs.Places.{is_leaf_at, is_none}
use Rattle.trie_find_laws.specs.Search as search
use Rattle.trie_find_laws.specs.Search.{Forest, none, tree, wait}
use Rattle.trie_find_queue.specs.declared.NodeQueue.{NodeQueue}
use Rattle.trie_find_queue.specs.declared.WaitingNode.{WaitingNode}
use Rattle.trie_find_queue.specs.Waits.{path_of, waits}
use Rattle.trie_find_steps.specs.Steps.{NodeInside, first_child, next_sibling}
use Rattle.trie_find_turns.specs.Turns.{Is, OnWay, Reaches, SomeToward, Toward, goes_down, is_stuck, next_on_way}
use Rattle.trie_find_turns.specs.Turns.{with_last}
use Rattle.trie_find_turns.proofs.Standing.{child_at, child_is, is_short, next_at, next_is}
use Rattle.trie_find_turns.proofs.Turning.{child_there, next_there}

-- the four ways from a node
module _ (p q l : List ℕ) (s : ℕ) where
  descend_here : (kids next : Forest) → begins p (q ++ l) ≡ true
      → descend p q (tree l s kids next) ≡ wait q l s kids none ∷ []
  descend_here none next t = rw t
  descend_here (tree a b c d) next t = rw t

  descend_down : (a : List ℕ) (b : ℕ) (c d next : Forest) → begins p (q ++ l) ≡ false → begins (q ++ l) p ≡ true
      → descend p q (tree l s (tree a b c d) next) ≡ descend p (q ++ l) (tree a b c d)
  descend_down a b c d next t u = rw (t, u)

  descend_aside : (kids next : Forest) → begins p (q ++ l) ≡ false → (is_none kids ≡ false → begins (q ++ l) p ≡ false)
      → descend p q (tree l s kids next) ≡ descend p q next
  descend_aside none next t u = rw t
  descend_aside (tree a b c d) next t u = rw (t, u refl)

module _ (bs p : List ℕ) (x : WaitingNode) (ws : List search.WaitingForest) (d : Toward bs p x ws) where
  path_is : path_of x ≡ d.q ++ d.l
  path_is = d.is.path

  pub toward_short : x.len ≤ longest_name
  toward_short = is_short bs x d.q d.l d.s d.kids d.next d.is

  pub toward_inside : NodeInside bs x.at
  toward_inside = d.is.node.inside

  -- the prefix begins the path
  pub toward_here : begins p (path_of x) ≡ true → (r : NodeQueue) → waits r ≡ with_last x true ∷ [] → r.count ≡ 1
      → Reaches bs ws r
  toward_here t r e n =
      let i = d.is in
      let f = descend_here p d.q d.l d.s d.kids d.next (rw path_is at t) in
      let one : Is bs (with_last x true) d.q d.l d.s d.kids none =
      record {
        array = i.array;
        path = i.path;
        len = i.len;
        score = i.score;
        last = refl;
        node = i.node;
        top = i.top;
        lower = tt;
        under = i.under;
        beside = tt;
      }
      in
      record { all = rw (e, ← d.leads, f) (one, tt); few = omega arith }

  down_is : goes_down bs x p ≡ true → (is_leaf_at bs x.at ≡ false) × (begins (d.q ++ d.l) p ≡ true)
  down_is t = by_test (is_leaf_at bs x.at) (λ u. absurd (false≢true (rw u at t)))
      (λ u. (u, (rw (path_is) at (rw u at t))))

  aside_is : goes_down bs x p ≡ false → is_none d.kids ≡ false → begins (d.q ++ d.l) p ≡ false
  aside_is t u = let v = d.is.node.leaf ∙ u in rw (path_is) at (rw v at t)

  toward_down : begins p (path_of x) ≡ false → goes_down bs x p ≡ true → Toward bs p (first_child bs x) ws
  toward_down t u = go d.kids d.is d.leads
    where
      go : (k : Forest) → Is bs x d.q d.l d.s k d.next
          → descend p d.q (tree d.l d.s k d.next) ≡ ws → Toward bs p (first_child bs x) ws
      go none i e = absurd (false≢true (sym (down_is u).0 ∙ i.node.leaf))
      go (tree a b c f) i e =
          record {
            q = d.q ++ d.l;
            l = a;
            s = b;
            kids = c;
            next = f;
            is = child_is bs x d.q d.l d.s a b c f d.next i;
            leads = sym (descend_down p d.q d.l d.s a b c f d.next (rw path_is at t) (down_is u).1) ∙ e;
          }

  aside_leads : begins p (path_of x) ≡ false → goes_down bs x p ≡ false → descend p d.q d.next ≡ ws
  aside_leads t u = sym (descend_aside p d.q d.l d.s d.kids d.next (rw path_is at t) (aside_is u))
      ∙ d.leads

  toward_aside : begins p (path_of x) ≡ false → goes_down bs x p ≡ false → x.last ≡ false
      → Toward bs p (next_sibling bs x) ws
  toward_aside t u v = go d.next d.is (aside_leads t u)
    where
      go : (n : Forest) → Is bs x d.q d.l d.s d.kids n → descend p d.q n ≡ ws
          → Toward bs p (next_sibling bs x) ws
      go none i e = absurd (false≢true (sym v ∙ i.last))
      go (tree a b c f) i e = record {
        q = d.q;
        l = a;
        s = b;
        kids = c;
        next = f;
        is = next_is bs x d.q d.l d.s d.kids a b c f i;
        leads = e;
      }

  pub toward_stuck : begins p (path_of x) ≡ false → is_stuck bs x p ≡ true → ws ≡ []
  toward_stuck t u = by_test x.last
      (λ v. end v d.next d.is (aside_leads t
      (by_test (goes_down bs x p) (λ w. absurd (false≢true (rw (v, w) at u))) (λ w. w))))
      (λ v. absurd (false≢true (rw v at u)))
    where
      end : x.last ≡ true → (n : Forest) → Is bs x d.q d.l d.s d.kids n → descend p d.q n ≡ ws → ws ≡ []
      end v none i e = sym e
      end v (tree a b c f) i e = absurd (false≢true (sym i.last ∙ v))

  stuck_aside : is_stuck bs x p ≡ false → goes_down bs x p ≡ false → x.last ≡ false
  stuck_aside u w = by_test x.last (λ v. absurd (false≢true (sym u ∙ rw (v, w) refl))) (λ v. v)

  -- the next node on the way
  pub toward_onward : is_stuck bs x p ≡ false → OnWay bs x p
  toward_onward u =
      record {
        here = toward_inside;
        short = toward_short;
        down = λ w. child_there bs x d.q d.l d.s d.kids d.next d.is (down_is w).0;
        aside = λ w. next_there bs x d.q d.l d.s d.kids d.next d.is (stuck_aside u w);
      }

  toward_on : begins p (path_of x) ≡ false → is_stuck bs x p ≡ false → Toward bs p (next_on_way bs x p) ws
  toward_on t u = by_test (goes_down bs x p) (λ w. rw w (toward_down t w))
      (λ w. rw w (toward_aside t w (stuck_aside u w)))

  -- it stands further on
  pub toward_ahead : is_stuck bs x p ≡ false → (x.at < (next_on_way bs x p).at) × ((next_on_way bs x p).at ≤ length bs)
  toward_ahead u =
      by_test (goes_down bs x p)
      (λ w.
      let a = d.is.node.ahead (sym d.is.node.leaf ∙ (down_is w).0) in
      let b = (child_there bs x d.q d.l d.s d.kids d.next d.is (down_is w).0).below in
      let e = child_at bs x in
      rw w (omega arith, omega arith))
      (λ w. let a = toward_inside in let e = next_at bs x in rw w (omega arith, omega arith))

-- on the way: where it leads from the first node it leads from this one
pub record Heading (bs p : List ℕ) (x₀ x : WaitingNode) : Type 0 where
  pub some : SomeToward bs p x
  pub keeps : (ws : List search.WaitingForest) → Toward bs p x₀ ws → Toward bs p x ws

pub heading_start : (bs p : List ℕ) (x : WaitingNode) → SomeToward bs p x → Heading bs p x x
heading_start bs p x s = record { some = s; keeps = λ ws d. d }

pub heading_on :
    (bs p : List ℕ) (x₀ x : WaitingNode) → Heading bs p x₀ x → begins p (path_of x) ≡ false → is_stuck bs x p ≡ false
    → (y : WaitingNode) → y ≡ next_on_way bs x p
    → Heading bs p x₀ y
heading_on bs p x₀ x f t u y e =
    rw e
    (record {
      some = record { ws = f.some.ws; toward = toward_on bs p x f.some.ws f.some.toward t u };
      keeps = λ ws d. toward_on bs p x ws (f.keeps ws d) t u;
    })

pub nobody_reaches : (bs : List ℕ) (ws : List search.WaitingForest) (r : NodeQueue) → ws ≡ [] → r.count ≡ 0
    → Reaches bs ws r
nobody_reaches bs ws r e n = record { all = rw (e, n) tt; few = omega arith }

-- Lists of nodes that wait stand for lists of nodes of a forest: with one more, cut to so many, and through a turn.
use Prim.Native.Nat.{◌<◌, ◌≤◌, suc, zero, ℕ}
use mathlib.Core.Path.{◌∙◌, ◌≡◌, ap, refl, sym}
use mathlib.Core.Logic.{inl, inr}
use mathlib.Core.Bool.{false, false≢true, true}
use mathlib.Core.List.{List, [], ◌++◌, ◌∷◌}
use lib.ListN.{length, length-take, take}
use lib.Seq.{take_all}
use native.Mathlib.Omega.{arith}
use Rattle.octets.specs.Lists.{insert_by}
use Rattle.octets.proofs.Tests.{by_test}
use Rattle.entries.specs.Completion.{max_count}
use Rattle.entries.specs.Entries.{entry, outranks}
use Rattle.entries.specs.Names.{longest_name}
use Rattle.trie_find_laws.specs.Places.{is_leaf_at}
use Rattle.trie_find_laws.specs.Search as search
use Rattle.trie_find_laws.specs.Search.{Forest, follow, front_waits, known, none, tree, wait, waits_before}
use Rattle.trie_find_queue.specs.declared.NodeQueue.{NodeQueue}
use Rattle.trie_find_queue.specs.declared.WaitingNode.{WaitingNode}
use Rattle.trie_find_queue.specs.Waits.{Queued, Short, known_of, node_outranks, put_in_rank, waits}
use Rattle.trie_find_steps.specs.Steps.{ChildRoom, NextRoom, child_index, first_child, next_sibling}
use Rattle.trie_find_turns.specs.Turns.{Is, NextReady, SomeTodo, Stand, StandAll, Todo, TurnMatches, with_next}
use Rattle.trie_find_turns.proofs.Standing.{child_is, child_room, is_short, next_is, next_room}

-- what is known of both is the same
known_same : (bs : List ℕ) (x : WaitingNode) (w : search.WaitingForest) → Stand bs x w → known_of x ≡ known w
known_same bs x (wait p l s kids next) i = λ j. entry (i.path j) (i.score j)

before_same : (bs : List ℕ) (x y : WaitingNode) (w v : search.WaitingForest) → Stand bs x w → Stand bs y v
    → node_outranks x y ≡ waits_before w v
before_same bs x y w v i j = λ k. outranks (known_same bs x w i k) (known_same bs y v j k)

stand_short : (bs : List ℕ) (x : WaitingNode) (w : search.WaitingForest) → Stand bs x w → x.len ≤ longest_name
stand_short bs x (wait p l s kids next) i = is_short bs x p l s kids next i

all_short : (bs : List ℕ) (xs : List WaitingNode) (ws : List search.WaitingForest) → StandAll bs xs ws → Short xs
all_short bs [] ws a x m = absurd m
all_short bs (y ∷ xs) [] a x m = absurd a
all_short bs (y ∷ xs) (w ∷ ws) a x (inl q) = rw q (stand_short bs y w a.0)
all_short bs (y ∷ xs) (w ∷ ws) a x (inr m) = all_short bs xs ws a.1 x m

all_put :
    (bs : List ℕ) (x : WaitingNode) (w : search.WaitingForest) (xs : List WaitingNode) (ws : List search.WaitingForest)
    → Stand bs x w
    → StandAll bs xs ws
    → StandAll bs (put_in_rank x xs) (insert_by waits_before w ws)
all_put bs x w [] [] i a = (i, tt)
all_put bs x w [] (v ∷ ws) i a = absurd a
all_put bs x w (y ∷ xs) [] i a = absurd a
all_put bs x w (y ∷ xs) (v ∷ ws) i a =
    let e = before_same bs y x v w a.0 i in
    let ih = all_put bs x w xs ws i a.1 in
    by_test (waits_before v w) (λ t. rw (e, t) (a.0, ih)) (λ t. rw (e, t) (i, a))

all_take : (bs : List ℕ) (n : ℕ) (xs : List WaitingNode) (ws : List search.WaitingForest) → StandAll bs xs ws
    → StandAll bs (take n xs) (take n ws)
all_take bs zero xs ws a = tt
all_take bs (suc n) [] [] a = tt
all_take bs (suc n) [] (w ∷ ws) a = absurd a
all_take bs (suc n) (x ∷ xs) [] a = absurd a
all_take bs (suc n) (x ∷ xs) (w ∷ ws) a = (a.0, all_take bs n xs ws a.1)

pub all-length : (bs : List ℕ) (xs : List WaitingNode) (ws : List search.WaitingForest) → StandAll bs xs ws
    → length xs ≡ length ws
all-length bs [] [] a = refl
all-length bs [] (w ∷ ws) a = absurd a
all-length bs (x ∷ xs) [] a = absurd a
all-length bs (x ∷ xs) (w ∷ ws) a = ap suc (all-length bs xs ws a.1)

-- the next sibling comes to wait
module _ (bs : List ℕ) (x : WaitingNode) (p l : List ℕ) (s : ℕ) (kids : Forest) where
  all_next :
      (next : Forest) → Is bs x p l s kids next → (xs : List WaitingNode) (ws : List search.WaitingForest)
      → StandAll bs xs ws
      → StandAll bs (with_next bs x xs) (search.put_all_in_rank (front_waits p next) ws)
  all_next none i xs ws a = rw i.last a
  all_next (tree a' b c d) i xs ws a = rw i.last
      (all_put bs (next_sibling bs x) (wait p a' b c d) xs ws (next_is bs x p l s kids a' b c d i) a)

  pub next_there : (next : Forest) → Is bs x p l s kids next → x.last ≡ false → NextRoom bs x
  next_there none i h = absurd (false≢true (sym h ∙ i.last))
  next_there (tree a b c d) i h = next_room bs x p l s kids a b c d i

  pub child_there : (next : Forest) → Is bs x p l s kids next → is_leaf_at bs x.at ≡ false → ChildRoom bs x
  child_there next i h = go kids i
    where
      go : (k : Forest) → Is bs x p l s k next → ChildRoom bs x
      go none i = absurd (false≢true (sym h ∙ i.node.leaf))
      go (tree a b c d) i = child_room bs x p l s a b c d next i

-- a queue that the next sibling may be put in
todo_ready : (bs : List ℕ) (most : ℕ) (x : WaitingNode) (q : NodeQueue) (t : search.ForestTurn) → most ≤ max_count
    → Todo bs most x q t → NextReady bs q x most
todo_ready bs most x q t m d =
    let f = d.few in
    record {
      ready = record { few = omega arith; short = all_short bs (waits q) d.ws d.all };
      few = d.few;
      most_few = m;
      room = next_there bs x d.p d.l d.s d.kids d.next d.is;
    }

put_all :
    (bs : List ℕ) (most : ℕ) (x : WaitingNode) (q r : NodeQueue) (t : search.ForestTurn) (d : Todo bs most x q t)
    → Queued most (with_next bs x (waits q)) r
    → StandAll bs (waits r) (take most (search.put_all_in_rank (front_waits d.p d.next) d.ws))
put_all bs most x q r t d u =
    rw u.waiting
    (all_take bs most (with_next bs x (waits q)) (search.put_all_in_rank (front_waits d.p d.next) d.ws)
    (all_next bs x d.p d.l d.s d.kids d.next d.is (waits q) d.ws d.all))

-- one step down
todo_down :
    (bs : List ℕ) (most : ℕ) (x : WaitingNode) (q r : NodeQueue) (t : search.ForestTurn) → is_leaf_at bs x.at ≡ false
    → Queued most (with_next bs x (waits q)) r
    → Todo bs most x q t → Todo bs most (first_child bs x) r t
todo_down bs most x q r t h u d = go d.kids d.is d.turn
  where
    go : (k : Forest) → Is bs x d.p d.l d.s k d.next
        → follow most d.p d.l d.s k d.next d.ws ≡ t → Todo bs most (first_child bs x) r t
    go none i e = absurd (false≢true (sym h ∙ i.node.leaf))
    go (tree a b c e') i e =
        record {
          p = d.p ++ d.l;
          l = a;
          s = b;
          kids = c;
          next = e';
          ws = take most (search.put_all_in_rank (front_waits d.p d.next) d.ws);
          is = child_is bs x d.p d.l d.s a b c e' d.next i;
          all = put_all bs most x q r t d u;
          few = u.few;
          turn = e;
        }

pub todo_ahead : (bs : List ℕ) (most : ℕ) (x : WaitingNode) (q : NodeQueue) (t : search.ForestTurn)
    → is_leaf_at bs x.at ≡ false
    → Todo bs most x q t → (x.at < child_index bs x) × (child_index bs x ≤ length bs)
todo_ahead bs most x q t h d = (
  d.is.node.ahead (sym d.is.node.leaf ∙ h),
  (child_there bs x d.p d.l d.s d.kids d.next d.is h).below,
)

-- the end of a turn
pub todo_done :
    (bs : List ℕ) (most : ℕ) (x : WaitingNode) (q r : NodeQueue) (t : search.ForestTurn) → is_leaf_at bs x.at ≡ true
    → Queued most (with_next bs x (waits q)) r
    → Todo bs most x q t → TurnMatches bs most t (record { leaf = x; queue = r })
todo_done bs most x q r t h u d = go d.kids d.is d.turn
  where
    go : (k : Forest) → Is bs x d.p d.l d.s k d.next
        → follow most d.p d.l d.s k d.next d.ws ≡ t
        → TurnMatches bs most t (record { leaf = x; queue = r })
    go (tree a b c e') i e = absurd (false≢true (sym i.node.leaf ∙ h))
    go none i e =
        record {
          name = i.path ∙ ap (λ z. z.offered.name) e;
          score = i.score ∙ ap (λ z. z.offered.score) e;
          short = is_short bs x d.p d.l d.s none d.next i;
          all = rw (← e) (put_all bs most x q r t d u);
          few = u.few;
        }

-- on the way down: what a turn gives from the first node it gives from this one
pub record Following (bs : List ℕ) (most : ℕ) (x₀ : WaitingNode) (q₀ : NodeQueue) (x : WaitingNode) (q : NodeQueue) :
    Type 0 where
  pub some : SomeTodo bs most x q
  pub keeps : (t : search.ForestTurn) → Todo bs most x₀ q₀ t → Todo bs most x q t

pub following_start : (bs : List ℕ) (most : ℕ) (x : WaitingNode) (q : NodeQueue) → SomeTodo bs most x q
    → Following bs most x q x q
following_start bs most x q s = record { some = s; keeps = λ t d. d }

pub following_on :
    (bs : List ℕ) (most : ℕ) (x₀ : WaitingNode) (q₀ : NodeQueue) (x : WaitingNode) (q r : NodeQueue)
    → Following bs most x₀ q₀ x q
    → is_leaf_at bs x.at ≡ false
    → Queued most (with_next bs x (waits q)) r → (y : WaitingNode) → y ≡ first_child bs x → Following bs most x₀ q₀ y r
following_on bs most x₀ q₀ x q r f h u y e =
    rw e
    (record {
      some = record {
        t = f.some.t;
        todo = todo_down bs most x q r f.some.t h u f.some.todo;
        most_few = f.some.most_few;
      };
      keeps = λ t d. todo_down bs most x q r t h u (f.keeps t d);
    })

pub following_ready : (bs : List ℕ) (most : ℕ) (x : WaitingNode) (q : NodeQueue) → SomeTodo bs most x q
    → NextReady bs q x most
following_ready bs most x q s = todo_ready bs most x q s.t s.most_few s.todo

-- the next sibling put among those that wait, where there is one
pub put_kept : (bs : List ℕ) (most : ℕ) (x : WaitingNode) (q : NodeQueue) → q.count ≤ most → x.last ≡ true
    → Queued most (with_next bs x (waits q)) q
put_kept bs most x q h t =
    let a = length-take q.count q.nodes in
    rw t (record { waiting = sym (take_all most (waits q) (omega arith)); few = h })

pub put_more : (bs : List ℕ) (most : ℕ) (x y : WaitingNode) (q r : NodeQueue) → x.last ≡ false → y ≡ next_sibling bs x
    → Queued most (put_in_rank y (waits q)) r → Queued most (with_next bs x (waits q)) r
put_more bs most x y q r t e p = rw (t, ← e) p

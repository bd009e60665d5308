-- What nodes that wait stand for in a forest, and what a turn of the search does with them.
use Rattle.std.specs.Prelude.{◌+◌, ◌≤◌, ℕ, ◌≡◌, Bool, false, not, true, List, [], ◌++◌, ◌∷◌, length}
use Rattle.octets.specs.Lists.{if◌then◌otherwise◌}
use Rattle.octets.specs.Octets.{begins}
use Rattle.entries.specs.Completion.{max_count}
use Rattle.entries.specs.Names.{longest_name}
use Rattle.trie_find_laws.specs.Descend.{descend}
use Rattle.trie_find_laws.specs.Places.{ForestAt, Lower, NodeAt, from_behind, is_leaf_at, is_none, score_or}
use Rattle.trie_find_laws.specs.Search as search
use Rattle.trie_find_laws.specs.Search.{Forest, follow, tree, wait}
use Rattle.trie_find_queue.specs.declared.NodeQueue.{NodeQueue}
use Rattle.trie_find_queue.specs.declared.WaitingNode.{WaitingNode}
use Rattle.trie_find_queue.specs.Waits.{QueueReady, path_of, put_in_rank, waits}
use Rattle.trie_find_steps.specs.Steps.{ChildRoom, NextRoom, NodeInside, behind_of, child_index, first_child, next_sibling}
use Rattle.trie_find_turns.specs.declared.TrieTurn.{TrieTurn}

-- A node that waits stands for a node of a forest, with its children and the later siblings that wait with it.
pub record Is (bs : List ℕ) (x : WaitingNode) (p l : List ℕ) (s : ℕ) (kids next : Forest) : Type 0 where
  pub array : length x.path ≡ longest_name
  pub path : path_of x ≡ p ++ l
  pub len : x.len ≡ length p + length l
  pub score : x.score ≡ s
  pub last : x.last ≡ is_none next
  pub node : NodeAt bs p x.at x.from l kids
  pub top : score_or s kids ≡ s
  pub lower : Lower bs (behind_of bs x) s next
  pub under : ForestAt bs (p ++ l) (child_index bs x) (child_index bs x) kids
  pub beside : ForestAt bs p (behind_of bs x) (from_behind bs x.at x.from) next

abbrev pub Stand : List ℕ → WaitingNode → search.WaitingForest → Type 0
Stand bs x (wait p l s kids next) = Is bs x p l s kids next

-- nodes stand for nodes, one by one
abbrev pub StandAll : List ℕ → List WaitingNode → List search.WaitingForest → Type 0
StandAll bs [] [] = Unit {0}
StandAll bs [] (w ∷ ws) = ⊥
StandAll bs (x ∷ xs) [] = ⊥
StandAll bs (x ∷ xs) (w ∷ ws) = Stand bs x w × StandAll bs xs ws

-- the nodes that wait, with the next sibling of x if it has one
abbrev pub with_next : List ℕ → WaitingNode → List WaitingNode → List WaitingNode
with_next bs x ws = if x.last then ws otherwise put_in_rank (next_sibling bs x) ws

-- it may be put among them
pub record NextReady (bs : List ℕ) (q : NodeQueue) (x : WaitingNode) (most : ℕ) : Type 0 where
  pub ready : QueueReady q
  pub few : q.count ≤ most
  pub most_few : most ≤ max_count
  pub room : x.last ≡ false → NextRoom bs x

-- A node and others that wait stand for nodes from which a turn gives t.
pub record Todo (bs : List ℕ) (most : ℕ) (x : WaitingNode) (q : NodeQueue) (t : search.ForestTurn) : Type 0 where
  pub p : List ℕ
  pub l : List ℕ
  pub s : ℕ
  pub kids : Forest
  pub next : Forest
  pub ws : List search.WaitingForest
  pub is : Is bs x p l s kids next
  pub all : StandAll bs (waits q) ws
  pub few : q.count ≤ most
  pub turn : follow most p l s kids next ws ≡ t

pub record SomeTodo (bs : List ℕ) (most : ℕ) (x : WaitingNode) (q : NodeQueue) : Type 0 where
  pub t : search.ForestTurn
  pub todo : Todo bs most x q t
  pub most_few : most ≤ max_count

-- what a turn gave: the leaf's name and score, and the nodes that wait
pub record TurnMatches (bs : List ℕ) (most : ℕ) (t : search.ForestTurn) (r : TrieTurn) : Type 0 where
  pub name : path_of r.leaf ≡ t.offered.name
  pub score : r.leaf.score ≡ t.offered.score
  pub short : r.leaf.len ≤ longest_name
  pub all : StandAll bs (waits r.queue) t.waits
  pub few : r.queue.count ≤ most

abbrev pub TurnIs : List ℕ → ℕ → WaitingNode → NodeQueue → TrieTurn → Type 0
TurnIs bs most x q r = (t : search.ForestTurn) → Todo bs most x q t → TurnMatches bs most t r

-- a node that waits with its later siblings, or without
abbrev pub with_last : WaitingNode → Bool → WaitingNode
with_last x alone = record { path = x.path; len = x.len; score = x.score; at = x.at; from = x.from; last = alone }

-- the way to a prefix
abbrev pub goes_down : List ℕ → WaitingNode → List ℕ → Bool
goes_down bs x p = if is_leaf_at bs x.at then false otherwise begins (path_of x) p

abbrev pub is_stuck : List ℕ → WaitingNode → List ℕ → Bool
is_stuck bs x p = if x.last then not (goes_down bs x p) otherwise false

abbrev pub next_on_way : List ℕ → WaitingNode → List ℕ → WaitingNode
next_on_way bs x p = if goes_down bs x p then first_child bs x otherwise next_sibling bs x

pub record OnWay (bs : List ℕ) (x : WaitingNode) (p : List ℕ) : Type 0 where
  pub here : NodeInside bs x.at
  pub short : x.len ≤ longest_name
  pub down : goes_down bs x p ≡ true → ChildRoom bs x
  pub aside : goes_down bs x p ≡ false → NextRoom bs x

-- A node stands for one from which the way to the prefix leads to ws.
pub record Toward (bs p : List ℕ) (x : WaitingNode) (ws : List search.WaitingForest) : Type 0 where
  pub q : List ℕ
  pub l : List ℕ
  pub s : ℕ
  pub kids : Forest
  pub next : Forest
  pub is : Is bs x q l s kids next
  pub leads : descend p q (tree l s kids next) ≡ ws

pub record SomeToward (bs p : List ℕ) (x : WaitingNode) : Type 0 where
  pub ws : List search.WaitingForest
  pub toward : Toward bs p x ws

pub record Reaches (bs : List ℕ) (ws : List search.WaitingForest) (r : NodeQueue) : Type 0 where
  pub all : StandAll bs (waits r) ws
  pub few : r.count ≤ 1

abbrev pub Led : List ℕ → List ℕ → WaitingNode → NodeQueue → Type 0
Led bs p x r = (ws : List search.WaitingForest) → Toward bs p x ws → Reaches bs ws r

-- Completion from a trie: best-first over at most k waiting nodes.
use Rattle.std.specs.Prelude.{suc, zero, ℕ, ◌≡◌, Bool, false, true, List, [], ◌++◌, ◌∷◌, take}
use Rattle.octets.specs.Lists.{◌∈◌, insert_by}
use Rattle.octets.specs.Octets.{begins}
use Rattle.entries.specs.Entries.{Entry, entry, outranks}

-- A forest: a node with its label and score, the forest of its children, and its later siblings. A leaf has no
-- children.
pub data Forest : Type 0 where
  none : Forest
  tree : List ℕ → ℕ → Forest → Forest → Forest

-- a node that waits with its later siblings; the path is what stands before its label
pub data WaitingForest : Type 0 where
  wait : List ℕ → List ℕ → ℕ → Forest → Forest → WaitingForest

-- the node at the front of a forest waits; nothing of an empty one
abbrev pub front_waits : List ℕ → Forest → List WaitingForest
front_waits p none = []
front_waits p (tree l s kids next) = wait p l s kids next ∷ []

-- what is known of a waiting node: its path so far and its score
abbrev pub known : WaitingForest → Entry
known (wait p l s kids next) = entry (p ++ l) s

abbrev pub waits_before : WaitingForest → WaitingForest → Bool
waits_before a b = outranks (known a) (known b)

-- waiting nodes in order, with more of them
abbrev pub put_all_in_rank : List WaitingForest → List WaitingForest → List WaitingForest
put_all_in_rank [] ws = ws
put_all_in_rank (x ∷ xs) ws = insert_by waits_before x (put_all_in_rank xs ws)

-- what a turn of the search gives: the entry offered, and the nodes that wait then
pub record ForestTurn : Type 0 where
  pub offered : Entry
  pub waits : List WaitingForest

-- One turn, from a node down its first children to a leaf, which is offered. The next sibling of each node on the way
-- comes to wait; no more than k wait at any time.
abbrev pub follow : ℕ → List ℕ → List ℕ → ℕ → Forest → Forest → List WaitingForest → ForestTurn
follow k p l s none next ws = record {
  offered = entry (p
      ++ l) s;
  waits = take k (put_all_in_rank (front_waits p next) ws);
}
follow k p l s (tree a b c d) next ws = follow k (p ++ l) a b c d (take k (put_all_in_rank (front_waits p next) ws))

-- the search: one turn from the first of those that wait, until k are offered or none waits; the others are no more
-- than are still to be offered
abbrev pub search_offers : ℕ → List WaitingForest → List Entry
search_offers zero ws = []
search_offers (suc k) [] = []
search_offers (suc k) (wait p l s kids next ∷ ws) =
    (follow k p l s kids next ws).offered ∷ search_offers k (follow k p l s kids next ws).waits

-- the entries of a forest at a path
abbrev pub inside : List ℕ → Forest → List Entry
inside p none = []
inside p (tree l s none next) = entry (p ++ l) s ∷ inside p next
inside p (tree l s (tree a b c d) next) = inside (p ++ l) (tree a b c d) ++ inside p next

abbrev pub waiting_entries : WaitingForest → List Entry
waiting_entries (wait p l s kids next) = inside p (tree l s kids next)

-- nothing outside lies under a sibling, unless it is a leaf
abbrev pub Clear : List ℕ → Forest → List Entry → Type 0
Clear p none es = Unit {0}
Clear p (tree l s kids next) es = ((e : Entry) → e ∈ es → begins (p ++ l) e.name ≡ true → kids ≡ none)
    × Clear p next es

-- the best entry of a forest: the one that its first nodes lead to
abbrev pub top : List ℕ → Forest → Entry
top p none = entry p 0
top p (tree l s none next) = entry (p ++ l) s
top p (tree l s (tree a b c d) next) = top (p ++ l) (tree a b c d)

abbrev pub own_entries : List ℕ → List ℕ → ℕ → Forest → List Entry
own_entries p l s none = entry (p ++ l) s ∷ []
own_entries p l s (tree a b c d) = inside (p ++ l) (tree a b c d)

-- what the search needs of a forest: no entry outranks what is known of its first node, whose score is that of its best
-- entry; siblings and what they hold lie apart; so do all forests in it; the next sibling does not come before it
abbrev pub Proper : List ℕ → Forest → Type 0
Proper p none = Unit {0}
Proper p (tree l s kids next) =
    ((e : Entry) → e ∈ inside p (tree l s kids next) → outranks e (entry (p ++ l) s) ≡ false)
    × ((top p (tree l s kids next)).score ≡ s)
    × Clear p (tree l s kids none) (inside p next)
    × Clear p next (own_entries p l s kids)
    × ((e f : Entry) → e ∈ own_entries p l s kids → f ∈ inside p next → e.name ≡ f.name → ⊥)
    × Proper (p ++ l) kids
    × Proper p next
    × ((v : WaitingForest) → v ∈ front_waits p next → outranks (known v) (entry (p ++ l) s) ≡ false)

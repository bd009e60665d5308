-- The nodes that wait in a search: their rank, and a list of at most so many of them.
use Rattle.std.specs.Prelude.{◌≤◌, suc, ℕ, ◌≡◌, Bool, false, List, [], ◌++◌, ◌∷◌, drop, take}
use Rattle.octets.specs.Lists.{◌∈◌, if◌then◌otherwise◌, insert_by}
use Rattle.entries.specs.Completion.{max_count}
use Rattle.entries.specs.Entries.{Entry, entry, outranks}
use Rattle.entries.specs.Names.{longest_name}
use Rattle.trie_find_queue.specs.declared.NodeQueue.{NodeQueue}
use Rattle.trie_find_queue.specs.declared.WaitingNode.{WaitingNode}

-- what is read where there is no node
abbrev pub nowhere : WaitingNode
nowhere = record { path = []; len = 0; score = 0; at = 0; from = 0; last = false }

-- the path down to a node that waits, with its own label
abbrev pub path_of : WaitingNode → List ℕ
path_of x = take x.len x.path

-- what is known of it
abbrev pub known_of : WaitingNode → Entry
known_of x = entry (path_of x) x.score

-- rank by what is known
abbrev pub node_outranks : WaitingNode → WaitingNode → Bool
node_outranks a b = outranks (known_of a) (known_of b)

-- the nodes in a queue
abbrev pub waits : NodeQueue → List WaitingNode
waits q = take q.count q.nodes

-- every path is as long as the longest name at most
abbrev pub Short : List WaitingNode → Type 0
Short ws = (x : WaitingNode) → x ∈ ws → x.len ≤ longest_name

-- a queue that more may be put in
pub record QueueReady (q : NodeQueue) : Type 0 where
  pub few : q.count ≤ max_count
  pub short : Short (waits q)

-- how many, from the front, come before x
abbrev pub rank_among : WaitingNode → List WaitingNode → ℕ
rank_among x [] = 0
rank_among x (y ∷ ys) = if node_outranks y x then suc (rank_among x ys) otherwise 0

abbrev pub put_at : ℕ → WaitingNode → List WaitingNode → List WaitingNode
put_at i x ws = take i ws ++ (x ∷ drop i ws)

-- x in front of the first that it does not come behind
abbrev pub put_in_rank : WaitingNode → List WaitingNode → List WaitingNode
put_in_rank x ws = insert_by node_outranks x ws

-- a queue of the first `most` of a list
pub record Queued (most : ℕ) (ws : List WaitingNode) (q : NodeQueue) : Type 0 where
  pub waiting : waits q ≡ take most ws
  pub few : q.count ≤ most

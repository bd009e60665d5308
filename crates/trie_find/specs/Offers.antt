-- What completion from a checked trie gives.
use Rattle.std.specs.Prelude.{◌+◌, ◌<◌, ◌≤◌, ℕ, ◌≡◌, Bool, Ok, List, ◌∷◌}
use Rattle.octets.specs.Octets.{overwrite}
use Rattle.entries.specs.Completion.{max_count}
use Rattle.entries.specs.Entries.{Entry}
use Rattle.answer.specs.Answers.{entries_bytes, given}
use Rattle.frame.specs.Frame.{entries_of, is_read}
use Rattle.completion.specs.Complete.{offered_as}
use Rattle.answer.specs.Reports.{offered_of}
use Rattle.answer.specs.declared.Offered.{Offered}
use Rattle.trie.specs.Reading.{read_trie}
use Rattle.trie.specs.Trie.{levels}
use Rattle.trie_find_laws.specs.Descend.{start_for}
use Rattle.trie_find_laws.specs.Planted.{plant}
use Rattle.trie_find_laws.specs.Search as search
use Rattle.trie_find_laws.specs.Search.{follow, wait}
use Rattle.trie_find_queue.specs.declared.NodeQueue.{NodeQueue}
use Rattle.trie_find_queue.specs.Waits.{waits}
use Rattle.trie_find_turns.specs.declared.TrieTurn.{TrieTurn}
use Rattle.trie_find_turns.specs.Turns.{StandAll, TurnMatches}

-- a buffer in which a trie is read, and its entries
abbrev pub is_trie : List ℕ → Bool
is_trie bs = is_read (read_trie bs)

abbrev pub in_trie : List ℕ → List Entry
in_trie bs = entries_of (read_trie bs)

-- the nodes of its forest that wait at first
unfoldable pub first_waits : List ℕ → List ℕ → List search.WaitingForest
first_waits bs p = start_for p (plant levels (in_trie bs))

-- a turn from a node, with others that wait
abbrev pub turn_of : ℕ → search.WaitingForest → List search.WaitingForest → search.ForestTurn
turn_of most (wait p l s kids next) ws = follow most p l s kids next ws

-- nodes of a forest wait, at least one
pub record TurnReady (bs : List ℕ) (q : NodeQueue) (most : ℕ) : Type 0 where
  pub ws : List search.WaitingForest
  pub all : StandAll bs (waits q) ws
  pub some : 0 < q.count
  pub few : q.count ≤ most + 1
  pub most_few : most < max_count

-- what a turn gives from the first of the nodes
pub record Gives (bs : List ℕ) (most : ℕ) (ws : List search.WaitingForest) (r : TrieTurn) : Type 0 where
  pub first : search.WaitingForest
  pub others : List search.WaitingForest
  pub split : ws ≡ first ∷ others
  pub done : TurnMatches bs most (turn_of most first others) r

abbrev pub TurnGiven : List ℕ → NodeQueue → ℕ → TrieTurn → Type 0
TurnGiven bs q most r = (ws : List search.WaitingForest) → StandAll bs (waits q) ws → Gives bs most ws r

-- the answer of a completion that takes no looks
abbrev pub offer_of : ℕ → ℕ → Offered
offer_of offered bytes = record { offered = offered; bytes = bytes; looks = 0 }

-- the list l is answered, with looks 0, and written at the front of the destination
pub record OffersWritten (l : List Entry) (before : List ℕ) (r : Offered) (after : List ℕ) : Type 0 where
  pub answer : offered_of (Ok r) ≡ given (offered_as l 0)
  pub written : after ≡ overwrite before (entries_bytes l)

-- The steps from a node that waits to its first child and to its next sibling, on the trie's bytes.
use Rattle.std.specs.Prelude.{◌+◌, ◌-◌, ◌≤◌, ℕ, ◌≡◌, false, List, length}
use Rattle.std.proofs.lemmas.List.Edits.{sets}
use Rattle.entries.specs.Names.{longest_name}
use Rattle.trie.specs.Reading.{label_length, last_mark}
use Rattle.trie_find_laws.specs.Places.{behind_at, children_at, from_behind, header_at, is_leaf_at, label_at, score_field_at}
use Rattle.trie_find_queue.specs.declared.WaitingNode.{WaitingNode}

-- the node at an index lies within the bytes
abbrev pub NodeInside : List ℕ → ℕ → Type 0
NodeInside bs at = behind_at bs at ≤ length bs

-- and behind a path of `len` bytes its label makes no path that is too long
abbrev pub FitsPath : List ℕ → ℕ → ℕ → Type 0
FitsPath bs len at = NodeInside bs at × (len + label_length (header_at bs at) ≤ longest_name)

-- the node at an index behind a path, the first `len` bytes of an array, with a score
unfoldable pub arrive_at : List ℕ → List ℕ → ℕ → ℕ → ℕ → ℕ → WaitingNode
arrive_at bs path len score at from =
    record {
      path = sets path len (label_at bs at);
      len = len + label_length (header_at bs at);
      score = score;
      at = at;
      from = from;
      last = last_mark (header_at bs at);
    }

abbrev pub child_index : List ℕ → WaitingNode → ℕ
child_index bs x = children_at bs x.at x.from

abbrev pub behind_of : List ℕ → WaitingNode → ℕ
behind_of bs x = behind_at bs x.at

-- the path in front of the node's own label
abbrev pub front_of : List ℕ → WaitingNode → ℕ
front_of bs x = x.len - label_length (header_at bs x.at)

-- the first child, with the node's score
abbrev pub first_child : List ℕ → WaitingNode → WaitingNode
first_child bs x = arrive_at bs x.path x.len x.score (child_index bs x) (child_index bs x)

-- the next sibling, its score lower by its field
abbrev pub next_sibling : List ℕ → WaitingNode → WaitingNode
next_sibling bs x =
    arrive_at bs x.path (front_of bs x) (x.score - score_field_at bs (behind_of bs x)) (behind_of bs x)
    (from_behind bs x.at x.from)

-- there is a first child, and a next sibling
pub record ChildRoom (bs : List ℕ) (x : WaitingNode) : Type 0 where
  pub here : NodeInside bs x.at
  pub below : child_index bs x ≤ length bs
  pub child : FitsPath bs x.len (child_index bs x)

pub record NextRoom (bs : List ℕ) (x : WaitingNode) : Type 0 where
  pub here : NodeInside bs x.at
  pub below : is_leaf_at bs x.at ≡ false → child_index bs x ≤ length bs
  pub own : label_length (header_at bs x.at) ≤ x.len
  pub lower : score_field_at bs (behind_of bs x) ≤ x.score
  pub next : FitsPath bs (front_of bs x) (behind_of bs x)

-- Where the nodes of a forest stand in a trie's bytes.
use Rattle.std.specs.Prelude.{◌+◌, ◌<◌, ◌≤◌, ℕ, ◌≡◌, Bool, false, true, List, ◌++◌, eqb, drop, get_or, length, take}
use Rattle.octets.specs.Lists.{if◌then◌otherwise◌}
use Rattle.octets.specs.Octets.{number_at}
use Rattle.entries.specs.Names.{longest_name}
use Rattle.trie.specs.Reading.{child_size, label_length, last_mark, score_size}
use Rattle.trie_find_laws.specs.Search.{Forest, none, tree}

-- The node whose header byte is at an index: its header, its score field, its child field, its label, and the index
-- behind it.
abbrev pub header_at : List ℕ → ℕ → ℕ
header_at bs at = get_or bs at 0

abbrev pub score_field_at : List ℕ → ℕ → ℕ
score_field_at bs at = number_at (score_size (header_at bs at)) bs (at + 1)

abbrev pub child_field_at : List ℕ → ℕ → ℕ
child_field_at bs at = number_at (child_size (header_at bs at)) bs (at + 1 + score_size (header_at bs at))

abbrev pub label_from : List ℕ → ℕ → ℕ
label_from bs at = at + 1 + score_size (header_at bs at) + child_size (header_at bs at)

abbrev pub behind_at : List ℕ → ℕ → ℕ
behind_at bs at = label_from bs at + label_length (header_at bs at)

abbrev pub label_at : List ℕ → ℕ → List ℕ
label_at bs at = take (label_length (header_at bs at)) (drop (label_from bs at) bs)

abbrev pub is_leaf_at : List ℕ → ℕ → Bool
is_leaf_at bs at = eqb (child_size (header_at bs at)) 0

-- where its first child stands, if its child field counts from `from`
abbrev pub children_at : List ℕ → ℕ → ℕ → ℕ
children_at bs at from = from + child_field_at bs at

-- from where the child field of the next sibling counts
abbrev pub from_behind : List ℕ → ℕ → ℕ → ℕ
from_behind bs at from = if is_leaf_at bs at then from otherwise children_at bs at from

abbrev pub is_none : Forest → Bool
is_none none = true
is_none (tree l s kids next) = false

-- the score of the first node; s where there is none
abbrev pub score_or : ℕ → Forest → ℕ
score_or s none = s
score_or s (tree l t kids next) = t

-- A node with its label and children, at a path: it stands at index `at`, and its child field counts from `from`.
pub record NodeAt (bs p : List ℕ) (at from : ℕ) (l : List ℕ) (kids : Forest) : Type 0 where
  pub inside : behind_at bs at ≤ length bs
  pub label : label_at bs at ≡ l
  pub leaf : is_leaf_at bs at ≡ is_none kids
  pub short : length p + length l ≤ longest_name
  pub ahead : is_none kids ≡ false → at < children_at bs at from

-- the next sibling's score is lower by its score field
abbrev pub Lower : List ℕ → ℕ → ℕ → Forest → Type 0
Lower bs at s none = Unit {0}
Lower bs at s (tree l t kids next) = t + score_field_at bs at ≡ s

-- The siblings of a forest stand one behind the other from index `at` on, and below each its children; the first child
-- has the node's score.
abbrev pub ForestAt : List ℕ → List ℕ → ℕ → ℕ → Forest → Type 0
ForestAt bs p at from none = Unit {0}
ForestAt bs p at from (tree l s kids next) =
    NodeAt bs p at from l kids
    × (last_mark (header_at bs at) ≡ is_none next)
    × (score_or s kids ≡ s)
    × Lower bs (behind_at bs at) s next
    × ForestAt bs (p ++ l) (children_at bs at from) (children_at bs at from) kids
    × ForestAt bs p (behind_at bs at) (from_behind bs at from) next

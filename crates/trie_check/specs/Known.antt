-- The answers within the walk, with all the turns that suffice, and what is known of them within n bytes: each is
-- further on, and within.
use Rattle.std.specs.Prelude.{◌*◌, ◌-◌, ◌<◌, ◌≤◌, ℕ, ◌≡◌, List, None, Option, Some, length}
use Rattle.trie_check_laws.specs.Walk.{beneath, in_group, reached_by, walk_of}
use Rattle.trie_check_laws.specs.declared.Fields.{Fields}
use Rattle.trie_check_laws.specs.declared.Above.{Above}
use Rattle.trie_check_laws.specs.declared.Among.{Among}
use Rattle.trie_check_laws.specs.declared.WalkEnd.{WalkEnd}

-- the walk over a group
abbrev pub GroupIs : List ℕ → ℕ → Above → ℕ → Option WalkEnd → Type 0
GroupIs s at a left r = (k : ℕ) → 4 * (length s - at) < k → r ≡ walk_of s k (in_group at a left)

-- its end, with all its descendants
abbrev pub GroupKnown : Option WalkEnd → ℕ → ℕ → Type 0
GroupKnown None at n = Unit {0}
GroupKnown (Some w) at n = (at < w.end) × (w.end ≤ n)

-- the place behind a node
abbrev pub NodeIs : List ℕ → Among → Fields → Option Among → Type 0
NodeIs s p n r = (k : ℕ) → 4 * (length s - p.next) < k → r ≡ reached_by s p n (walk_of s k (beneath s p n))

-- where the next group is to begin there, if it was p before the node
abbrev pub NodeKnown : Option Among → ℕ → ℕ → Type 0
NodeKnown None p n = Unit {0}
NodeKnown (Some q) p n = (p ≤ q.next) × (q.next ≤ n)

-- The answers of the reading of one node and of a group's end, and what is known of them within n bytes: each is
-- further on, and within.
use Rattle.std.specs.Prelude.{◌-◌, ◌<◌, ◌≤◌, ℕ, ◌≡◌, List, None, Option, Some, length}
use Rattle.trie_check_laws.specs.Walk.{group_end}
use Rattle.trie_check_laws.specs.declared.Fields.{Fields}

-- a node ends behind its begin and holds its label
abbrev pub HeadKnown : Option Fields → ℕ → ℕ → Type 0
HeadKnown None at n = Unit {0}
HeadKnown (Some f) at n = (at < f.end) × (f.end ≤ n) × (f.len ≤ f.end)

-- where the group at a position ends, with all the turns that suffice
abbrev pub EndIs : List ℕ → ℕ → Option ℕ → Type 0
EndIs s at r = (k : ℕ) → length s - at < k → r ≡ group_end s k at

abbrev pub EndKnown : Option ℕ → ℕ → ℕ → Type 0
EndKnown None at n = Unit {0}
EndKnown (Some e) at n = (at < e) × (e ≤ n)

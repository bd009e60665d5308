-- The forest of a set of suffixes: the nodes that the trie image writes.
use Rattle.std.specs.Prelude.{suc, zero, ℕ, false, true, List, [], ◌∷◌, length}
use Rattle.octets.specs.Lists.{sort_by}
use Rattle.entries.specs.Entries.{Entry}
use Rattle.trie.specs.Trie.{by_first, highest, label_of, remains, used_up}
use Rattle.trie_find_laws.specs.Search.{Forest, none, tree}
use Rattle.trie_laws.specs.Keys.{set_before}

-- nothing under a used-up suffix
unfoldable pub kids_of : (List Entry → Forest) → List Entry → Forest
kids_of below s = elim (used_up (length (label_of s)) s) [ true ↦ none | false ↦ below (remains (length (label_of s)) s) ]

abbrev pub plant_all : (List Entry → Forest) → List (List Entry) → Forest
plant_all below [] = none
plant_all below (s ∷ ss) = tree (label_of s) (highest s) (kids_of below s) (plant_all below ss)

abbrev pub plant : ℕ → List Entry → Forest
plant zero es = none
plant (suc d) es = plant_all (plant d) (sort_by set_before (by_first es))

-- Suffixes and sets of them as siblings: their keys, and the order of their nodes.
use Rattle.std.specs.Prelude.{◌≤◌, suc, zero, ℕ, ◌⊎◌, Bool, List, [], ◌∷◌}
use Rattle.entries.specs.Entries.{Entry, entry, outranks}
use Rattle.trie.specs.Trie.{highest, label_of}

-- The key of a label or a suffix: 0 if it is empty, else one more than its first byte. Siblings have different keys,
-- and at equal scores stand by their keys.
abbrev pub key : List ℕ → ℕ
key [] = 0
key (x ∷ xs) = suc x

-- the key of a set: that of its suffixes
abbrev pub set_key : List Entry → ℕ
set_key [] = 0
set_key (e ∷ es) = key e.name

-- The keys that suffixes can have behind an open half (`half_after`), as ranges: between signs that of the empty suffix,
-- those of 20 to 7E, of C2 and of CE; inside a pair that of its other half.
abbrev pub keys_behind : ℕ → List (ℕ × ℕ)
keys_behind zero = (0, 0) ∷ (suc 0x20, suc 0x7E) ∷ (suc 0xC2, suc 0xC2) ∷ (suc 0xCE, suc 0xCE) ∷ []
keys_behind (suc zero) = (suc 0xB5, suc 0xB5) ∷ []
keys_behind (suc (suc h)) = (suc 0xA9, suc 0xA9) ∷ []

abbrev pub KeyIn : ℕ → List (ℕ × ℕ) → Type 0
KeyIn k [] = ⊥
KeyIn k (r ∷ rs) = ((r.0 ≤ k) × (k ≤ r.1)) ⊎ KeyIn k rs

-- the label and the score of a set's node, and the order of siblings, for their sets
abbrev pub node_entry : List Entry → Entry
node_entry s = entry (label_of s) (highest s)

abbrev pub set_before : List Entry → List Entry → Bool
set_before s t = outranks (node_entry s) (node_entry t)

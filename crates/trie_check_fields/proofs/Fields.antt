-- The keys of labels.
use Prim.Native.Nat.{◌+◌, ℕ}
use mathlib.Core.Path.{◌≡◌, refl}
use mathlib.Core.List.{List, [], ◌∷◌}
use lib.ListN.{get_or, length}
use native.Mathlib.Omega.{arith}
use Rattle.trie_laws.specs.Keys.{key}

-- the key of a label
pub key-none : (w : List ℕ) → length w ≡ 0 → 0 ≡ key w
key-none [] h = refl
key-none (x ∷ w) h = absurd (omega arith)

pub key-some : (w : List ℕ) → (length w ≡ 0 → ⊥) → get_or w 0 0 + 1 ≡ key w
key-some [] h = absurd (h refl)
key-some (x ∷ w) h = omega arith

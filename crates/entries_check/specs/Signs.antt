-- The sign that a text begins with, and the signs of one byte from an index on.
use Rattle.std.specs.Prelude.{◌<◌, ◌≤◌, ℕ, ◌≡◌, Bool, false, List, [], ◌∷◌, drop, get_or, length}
use Rattle.entries.specs.Names.{is_pair, is_plain}
use Rattle.entries_laws.specs.Signs.{half_after, no_half}

-- one of two bytes
abbrev pub pair_first : List ℕ → Bool
pair_first [] = false
pair_first (a ∷ []) = false
pair_first (a ∷ b ∷ w) = is_pair a b

-- none
abbrev pub NoSign : List ℕ → Type 0
NoSign w = (is_plain (get_or w 0 0) ≡ false) × (pair_first w ≡ false)

-- signs of one byte alone between two indices, and none at the second
pub record PastPlain (w : List ℕ) (from to : ℕ) : Type 0 where
  pub on : from ≤ to
  pub within : to ≤ length w
  pub half : half_after no_half (drop from w) ≡ half_after no_half (drop to w)
  pub stops : to < length w → is_plain (get_or w to 0) ≡ false

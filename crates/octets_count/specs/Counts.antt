-- Bytes below 20, counted; and a byte that none is over.
use Rattle.std.specs.Prelude.{◌≤◌, ℕ, Bool, List, ltb, get_or, length}
use Rattle.octets.specs.Lists.{if◌then◌otherwise◌, keep}

-- how many bytes are counted in one byte
abbrev pub stretch : ℕ
stretch = 128

-- 1 for a byte below 20, else 0
abbrev pub is_low : ℕ → Bool
is_low b = ltb b 0x20

abbrev pub low_of : ℕ → ℕ
low_of b = if is_low b then 1 otherwise 0

-- how many of the bytes are
unfoldable pub low_count : List ℕ → ℕ
low_count w = length (keep is_low w)

-- no byte is over this one
abbrev pub Tops : List ℕ → ℕ → Type 0
Tops w b = (i : ℕ) → get_or w i 0 ≤ b

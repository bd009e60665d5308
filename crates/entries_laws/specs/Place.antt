-- Where a key stands among entries in name order: what finding, prefix ranges and edits look for.
use Rattle.std.specs.Prelude.{ℕ, Bool, ◌&&◌, ◌||◌, List, ltb, length}
use Rattle.octets.specs.Lists.{keep}
use Rattle.octets.specs.Octets.{begins, below, same}
use Rattle.entries.specs.Entries.{Entry, at}

-- the name is below the key or, with `past`, begun by it
abbrev pub is_before : Bool → List ℕ → Entry → Bool
is_before past key e = below e.name key || (past && begins key e.name)

-- how many entries are: these are the first ones
unfoldable pub place : Bool → List ℕ → List Entry → ℕ
place past key es = length (keep (is_before past key) es)

-- an entry stands at position i, and its name is w
abbrev pub is_at : List Entry → ℕ → List ℕ → Bool
is_at es i w = ltb i (length es) && same (at es i).name w

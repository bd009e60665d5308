-- The entries with another score at one position, the name as it was.
use Rattle.std.specs.Prelude.{ℕ, List, set}
use Rattle.entries.specs.Entries.{Entry, at, entry}

abbrev pub rescored : List Entry → ℕ → ℕ → List Entry
rescored es i s = set es i (entry (at es i).name s)

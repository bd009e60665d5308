-- Entries with a run of them replaced: what a set and a withdraw do at one place of the name order.
use Rattle.std.specs.Prelude.{◌+◌, ℕ, List, ◌++◌, drop, take}
use Rattle.entries.specs.Entries.{Entry}

abbrev pub spliced : ℕ → ℕ → List Entry → List Entry → List Entry
spliced i skip new es = take i es ++ (new ++ drop (i + skip) es)

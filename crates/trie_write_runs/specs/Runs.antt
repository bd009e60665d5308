-- The nodes of a sibling group as the writer keeps them: ranges of rows in the order of the siblings.
use Rattle.std.specs.Prelude.{◌≤◌, ℕ, ◌≡◌, Bool, false, true, List, [], ◌∷◌, length, take}
use Rattle.trie_write_runs.specs.declared.Run.{Run}

abbrev pub no_run : Run
no_run = record { lo = 0; hi = 0; high = 0; len = 0; under = 0 }

-- the first n of a group's runs
abbrev pub first_runs : List Run → ℕ → List Run
first_runs rs n = take n rs

-- the most siblings: one for each byte 20 to 7E, one for each first half of a pair, and the empty one
abbrev pub most_runs : ℕ
most_runs = 98

-- room for as many runs as a group can have, n of them held
pub record RunsKept (rs : List Run) (n : ℕ) : Type 0 where
  pub few : n ≤ most_runs
  pub long : length rs ≡ most_runs

-- the score of the first, 0 if there is none; whether there is none
abbrev pub first_high : List Run → ℕ
first_high [] = 0
first_high (r ∷ rs) = r.high

abbrev pub ends_here : List Run → Bool
ends_here [] = true
ends_here (r ∷ rs) = false

-- something of every run; scores that fall
abbrev pub Each : (Run → Type 0) → List Run → Type 0
Each P [] = Unit {0}
Each P (r ∷ rs) = P r × Each P rs

abbrev pub Falls : List Run → Type 0
Falls [] = Unit {0}
Falls (r ∷ rs) = (first_high rs ≤ r.high) × Falls rs

-- The runs of a group: those that are held, and those from an index on.
use Prim.Native.Nat.{◌+◌, ◌<◌, suc, zero, ℕ}
use mathlib.Core.Path.{◌≡◌}
use mathlib.Core.List.{List, [], ◌∷◌}
use lib.ListN.{drop, get_or, length}
use lib.Seq.{drop-cons, length-take-le}
use native.Mathlib.Numerals.{add-one}
use native.Mathlib.Omega.{arith}
use Rattle.trie_write_runs.specs.Runs.{Each, Falls, RunsKept, first_runs, no_run}
use Rattle.trie_write_runs.specs.declared.Run.{Run}

-- the runs that are held
module _ {rs : List Run} {n : ℕ} (k : RunsKept rs n) where
  pub kept_length : length (first_runs rs n) ≡ n
  kept_length = length-take-le n rs (omega (arith, k.long, k.few))

-- the runs from an index on
pub next_run : (rs : List Run) (i : ℕ) → i < length rs → drop i rs ≡ get_or rs i no_run ∷ drop (i + 1) rs
next_run rs i h = rw (add-one, drop-cons rs i no_run h)

-- what is known of every run is known from an index on
pub each_drop : (P : Run → Type 0) (rs : List Run) (i : ℕ) → Each P rs → Each P (drop i rs)
each_drop P rs zero e = e
each_drop P [] (suc i) e = e
each_drop P (r ∷ rs) (suc i) e = each_drop P rs i e.1

pub each_map : (P Q : Run → Type 0) → ((r : Run) → P r → Q r) → (rs : List Run) → Each P rs → Each Q rs
each_map P Q f [] e = tt
each_map P Q f (r ∷ rs) e = (f r e.0, each_map P Q f rs e.1)

pub falls_drop : (rs : List Run) (i : ℕ) → Falls rs → Falls (drop i rs)
falls_drop rs zero e = e
falls_drop [] (suc i) e = e
falls_drop (r ∷ rs) (suc i) e = falls_drop rs i e.1

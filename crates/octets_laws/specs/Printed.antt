-- Bytes stored one part behind the other.
use Rattle.std.specs.Prelude.{◌+◌, ◌≤◌, ℕ, ◌≡◌, List, length}
use Rattle.std.proofs.lemmas.List.Edits.{sets}

-- bytes stored in `out`, which has room for them, from index `at` on; `end` is behind them
pub record Printed (out : List ℕ) (at : ℕ) (bytes : List ℕ) (end : ℕ) (left : List ℕ) : Type 0 where
  pub stored : left ≡ sets out at bytes
  pub ends : end ≡ at + length bytes
  pub inside : end ≤ length out

-- A number's digits, stored so that they end in front of an index.
use Rattle.std.specs.Prelude.{◌+◌, ℕ, ◌≡◌, List, length}
use Rattle.std.proofs.lemmas.List.Edits.{sets}
use Rattle.octets.specs.Decimal.{decimal}

-- the digits of v, from index `start` on, in the bytes `left` that `bytes` have become
pub record Numbered (bytes : List ℕ) (end v start : ℕ) (left : List ℕ) : Type 0 where
  pub ends : start + length (decimal v) ≡ end
  pub stored : left ≡ sets bytes start (decimal v)

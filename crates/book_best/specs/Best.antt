-- The best-ranked position of a range.
use Rattle.std.specs.Prelude.{◌+◌, ◌-◌, ◌<◌, ◌≤◌, ℕ, ◌≡◌, false, List, drop, take}
use Rattle.entries.specs.Entries.{Entry, at, best, outranks}

-- r is the best-ranked of the positions from first to before end
pub record BestIn (es : List Entry) (first end r : ℕ) : Type 0 where
  pub is_best : r ≡ first + best (take (end - first) (drop first es))
  pub low : first ≤ r
  pub high : r < end

-- the same of its positions before next, said of each: none outranks b
pub record Tops (es : List Entry) (first end b next : ℕ) : Type 0 where
  pub low : first ≤ b
  pub high : b < next
  pub within : next ≤ end
  pub tops : (k : ℕ) → first ≤ k → k < next → outranks (at es k) (at es b) ≡ false

-- A block of scores, and the place in it that none beats.
use Rattle.std.specs.Prelude.{◌*◌, ◌<◌, ◌≤◌, ℕ, List}
use Rattle.octets.specs.Octets.{number_at}
use Rattle.book.specs.Book.{block_size}

-- the bytes of the scores of a block
abbrev pub block_bytes : ℕ
block_bytes = 64

-- the score at place i of a block of scores
abbrev pub score_in : List ℕ → ℕ → ℕ
score_in block i = number_at 4 block (4 * i)

-- no score of a whole block beats the one at place p: those before it are less, the others not more
abbrev pub Unbeaten : List ℕ → ℕ → Type 0
Unbeaten block p =
    (i : ℕ) → i < block_size
    → (i < p → score_in block i < score_in block p) × (score_in block i ≤ score_in block p)

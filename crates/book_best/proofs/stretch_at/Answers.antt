-- `book_best::stretch_at` meets its contract: a position tops itself, a block's peak the whole block.
-- No loop, so no invariant.
use native.Mathlib.Omega.{arith}
use Rattle.book_best.proofs.Tops.{tops_block, tops_one}
use Rattle.book_best.proofs.stretch_at.Goals as goal

pub returns-then-end-i-ge-BLOCK_SIZE : goal.returns-then-end-i-ge-BLOCK_SIZE
returns-then-end-i-ge-BLOCK_SIZE c =
    rw c.peak.ensures (tops_block _ _ _ _ (omega arith) (omega arith) (omega arith))

pub returns : goal.returns
returns c = tops_one _ _ _ (omega arith)

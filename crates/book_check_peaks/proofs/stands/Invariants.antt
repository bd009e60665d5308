-- `book_check_peaks::stands` meets its contract. The loop's invariant: where no score was counted, none of those before
-- i beats the one at the place.
use Prim.Native.Nat.{◌<◌, ◌≤◌, ℕ}
use mathlib.Core.Path.{◌≡◌}
use Rattle.book.specs.Book.{block_size}
use Rattle.book_check_peaks.specs.Unbeaten.{score_in}
use Rattle.book_check_peaks.proofs.stands.Given as goal

abbrev pub invariant-loop-i : goal.invariant-loop-i
invariant-loop-i l =
    (l.i ≤ block_size) × (l.beaten ≤ l.i) × (l.top ≡ score_in l.block l.place)
    × (l.beaten ≡ 0 → (k : ℕ) → k < l.i
    → (k < l.place → score_in l.block k < score_in l.block l.place) × (score_in l.block k ≤ score_in l.block l.place))

-- The loop over the blocks: those left decide as all of them do.
use Prim.Native.Nat.{◌+◌, ◌-◌, ◌<◌, ◌≤◌, suc, ℕ}
use mathlib.Core.Path.{◌≡◌}
use mathlib.Core.Bool.{Bool, true}
use mathlib.Core.List.{List}
use native.Mathlib.Numerals.{add-one}
use native.Mathlib.Omega.{arith}
use Rattle.octets.specs.Lists.{ceil}
use Rattle.book.specs.declared.Layout.{Layout}
use Rattle.book.specs.Book.{block_size}
use Rattle.book_laws.specs.Check.{peak_is, peaks_are}

-- the peaks of the blocks before j are right
pub record Peaks (l : Layout) (buf : List ℕ) (n j : ℕ) : Type 0 where
  pub within : j ≤ ceil n block_size
  pub left : peaks_are l (ceil n block_size - j) n j buf ≡ peaks_are l (ceil n block_size) n 0 buf

pub peaks_start_lem : (l : Layout) (buf : List ℕ) (n : ℕ) → Peaks l buf n 0
peaks_start_lem l buf n =
    let z : ceil n block_size - 0 ≡ ceil n block_size = omega arith in record { within = omega arith; left = rw z }

-- a turn: p is what the test of the peak said
module _ {l : Layout} {buf : List ℕ} {n j : ℕ} (g : Peaks l buf n j) (lt : j < ceil n block_size) {p : Bool}
    (tested : p ≡ peak_is l n j buf) where
  next_block : ceil n block_size - j ≡ suc (ceil n block_size - suc j)
  next_block = omega arith

  pub peaks-turn : p ≡ true → Peaks l buf n (j + 1)
  peaks-turn k = record { within = omega arith; left = rw add-one (rw (next_block, ← tested, k) at g.left) }

pub peaks_end : {l : Layout} {buf : List ℕ} {n j : ℕ} → Peaks l buf n j → ceil n block_size ≤ j
    → true ≡ peaks_are l (ceil n block_size) n 0 buf
peaks_end {n = n} {j = j} g h = let z : ceil n block_size - j ≡ 0 = omega arith in rw z at g.left

-- Peaks: a peak is the best-ranked position of its block.
use Prim.Native.Nat.{◌*◌, ◌+◌, ◌-◌, ◌<◌, min, ℕ}
use mathlib.Core.Path.{◌∙◌, ◌≡◌, ap, sym}
use mathlib.Core.List.{List, []}
use lib.Dec.{leb}
use lib.ListN.{drop, length, length-drop, take}
use lib.Seq.{take_all}
use native.Mathlib.Omega.{arith}
use borrow.Author.Tests.{leb-false, leb-true}
use Rattle.octets.proofs.Tests.{by_test}
use Rattle.entries.specs.Entries.{Entry, best}
use Rattle.entries.proofs.Span.{span, span_best}
use Rattle.book.specs.Book.{block_size, peak}

-- a block is the range of its positions
block_span :
    (es : List Entry) (j : ℕ) → block_size * j < length es
    → take block_size (drop (block_size * j) es) ≡ span es (block_size * j) (min (length es) (block_size * j + block_size))
block_span es j h =
    let d : length (drop (block_size * j) es) ≡ length es - block_size * j = length-drop (block_size * j) es in
    by_test (leb (block_size * j + block_size) (length es))
    (λ t.
    let q = leb-true (block_size * j + block_size) (length es) t in
    let z : min (length es) (block_size * j + block_size) - block_size * j ≡ block_size = omega arith in
    rw z)
    (λ t.
    let q = leb-false (block_size * j + block_size) (length es) t in
    let z : min (length es) (block_size * j + block_size) - block_size * j ≡ length es - block_size * j = omega arith in
    rw z
    (take_all block_size (drop (block_size * j) es) (omega arith)
    ∙ sym (take_all (length es - block_size * j) (drop (block_size * j) es) (omega arith))))

-- the peak is the best-ranked position of its block, counted from the first position of the book
pub peak_span :
    (es : List Entry) (j : ℕ) → block_size * j < length es
    → peak es j ≡ block_size * j + best (span es (block_size * j) (min (length es) (block_size * j + block_size)))
unfolding peak
peak_span es j h = ap (λ s. block_size * j + best s) (block_span es j h)

pub peak-inside : (es : List Entry) (j : ℕ) → block_size * j < length es → peak es j < length es
peak-inside es j h =
    let m = min (length es) (block_size * j + block_size) in
    let b = span_best es (block_size * j) (min (length es) (block_size * j + block_size)) (omega arith) (omega arith) in
    rw (peak_span es j h) (omega arith)

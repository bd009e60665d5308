-- The most entries that can be asked for, whatever it is: which counts it refuses, and how many looks it allows.
use Prim.Native.Nat.{◌≤◌, ℕ}
use mathlib.Core.Path.{◌≡◌}
use mathlib.Core.Bool.{false}
use mathlib.Core.List.{List}
use lib.Dec.{eqb, ltb}
use native.Mathlib.Omega.{arith}
use borrow.Author.Tests.{eqb-false, le-ltb, ltb-false}
use Rattle.octets.proofs.Tests.{or_false}
use Rattle.entries.specs.Entries.{Entry}
use Rattle.completion.specs.Complete.{bad_count}
use Rattle.completion.specs.Machine.{machine, most_looks}
use Rattle.completion.proofs.Machine.{looks_most}

-- a count within two limits is refused by both or by neither
pub same_count : (limit limit' k : ℕ) → k ≤ limit → k ≤ limit' → bad_count limit k ≡ bad_count limit' k
same_count limit limit' k h h' = rw (le-ltb limit k h, le-ltb limit' k h')

-- what a count is that is not refused
pub count_within : (limit k : ℕ) → bad_count limit k ≡ false → (1 ≤ k) × (k ≤ limit)
count_within limit k t =
    let q = or_false (eqb k 0) (ltb limit k) t in
    let z = eqb-false k 0 q.0 in
    (omega arith, ltb-false limit k q.1)

-- the looks for it
pub looks_within :
    (limit : ℕ) (es : List Entry) (p : List ℕ) (k : ℕ) → bad_count limit k ≡ false
    → (machine es p k).looks ≤ most_looks limit
looks_within limit es p k t =
    let c = count_within limit k t in
    let m = looks_most es p k c.0 in
    omega arith

-- Numbers in fields of 0, 1, 2 or 4 bytes.
use Prim.Native.Nat.{◌+◌, ◌≤◌, ℕ}
use mathlib.Core.Path.{◌≡◌, refl}
use mathlib.Core.List.{List}
use lib.Dec.{leb}
use lib.ListN.{drop, get_or, length, take}
use lib.Seq.{drop-cons}
use native.Mathlib.Omega.{arith}
use borrow.Author.Tests.{le-leb}
use Rattle.octets.specs.Octets.{from_be, number_at}
use Rattle.octets.proofs.Tests.{by_test}

pub number-none : (bs : List ℕ) (at : ℕ) → number_at 0 bs at ≡ 0
unfolding number_at from_be
number-none bs at = by_test (leb (at + 0) (length bs)) (λ t. rw t refl) (λ t. rw t refl)

pub number-one : (bs : List ℕ) (at : ℕ) → at + 1 ≤ length bs → number_at 1 bs at ≡ get_or bs at 0
unfolding number_at from_be
number-one bs at h = rw (le-leb (at + 1) (length bs) h, drop-cons bs at 0 (omega arith)) (omega arith)

-- the number in a field that lies within the bytes
pub number-part : (size : ℕ) (bs : List ℕ) (at : ℕ) → at + size ≤ length bs
    → number_at size bs at ≡ from_be (take size (drop at bs))
unfolding number_at
number-part size bs at h = rw (le-leb (at + size) (length bs) h)

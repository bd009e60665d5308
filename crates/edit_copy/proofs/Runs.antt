-- A buffer that goes on, from an index on, with bytes in front of another index, bytes behind it, and others: its
-- parts.
use Prim.Native.Nat.{◌+◌, ◌-◌, ◌≤◌, ℕ}
use mathlib.Core.Path.{◌∙◌, ◌≡◌, ap, sym}
use mathlib.Core.List.{List, ◌++◌}
use lib.ListN.{drop, length, length-drop, take}
use lib.Seq.{drop-append-le, drop-drop, take-append-le, take-append_seam}
use native.Mathlib.Omega.{arith}
use Rattle.edit_copy.specs.Copies.{part}

-- behind the index
module _ (s : List ℕ) (at : ℕ) (back left : List ℕ) (h : drop at s ≡ back ++ left) where
  from_on : (m : ℕ) → m ≤ length back → drop (at + m) s ≡ drop m back ++ left
  from_on m l = sym (drop-drop m at s) ∙ ap (drop m) h ∙ drop-append-le m back left l

  -- to the end of what stands behind it
  pub last_run : (x m : ℕ) → x ≡ at + m → m ≤ length back → part x (at + length back) s ≡ drop m back
  last_run x m e l =
      let d = length-drop m back in
      let z : at + length back - x ≡ length (drop m back) = omega arith in
      rw (z, e, from_on m l) (take-append_seam (drop m back) left)

  -- so many bytes of it
  pub some-run : (x m k : ℕ) → x ≡ at + m → m + k ≤ length back → part x (x + k) s ≡ take k (drop m back)
  some-run x m k e l =
      let d = length-drop m back in
      let z : x + k - x ≡ k = omega arith in
      rw (z, e, from_on m (omega arith)) (take-append-le k (drop m back) left (omega arith))

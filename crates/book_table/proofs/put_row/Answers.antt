-- `book_table::put_row` meets its contract: the bytes of the row are the name's, the others stay. No loop.
use Prim.Native.Nat.{◌+◌, ◌≤◌, ℕ}
use mathlib.Core.Path.{◌∙◌, ◌≡◌, refl, sym}
use mathlib.Core.List.{List}
use lib.ListN.{length}
use lib.Seq.{sets, sets-eq, take-length}
use native.Mathlib.Omega.{arith}
use borrow.Rule.Slice.PartMut.{put_mid}
use Rattle.std.proofs.lemmas.Slice.{put_mid-paste}
use Rattle.book_table.proofs.put_row.Goals as goal

-- a part of a list that is written anew as a whole
copied :
    (l vs part : List ℕ) (i k : ℕ) → part ≡ vs → k ≡ length vs → i + length vs ≤ length l
    → put_mid i k l part ≡ sets l i vs
copied l vs part i k e n h =
    put_mid-paste i k l part vs (length vs) e (sym n) refl ∙ rw take-length (sym (sets-eq vs l i h))

pub returns : goal.returns
returns c = copied _ _ _ _ _ c.copy_from_slice.ensures.after (omega (arith, c.requires)) (omega (arith, c.requires))

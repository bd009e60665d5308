-- The walk record by record: the records left, walked now, end where all of them do.
use Prim.Native.Nat.{◌-◌, ◌<◌, ◌≤◌, suc, ℕ}
use mathlib.Core.Path.{◌≡◌, sym}
use mathlib.Core.Bool.{Bool, false, true}
use mathlib.Core.List.{List, []}
use mathlib.Core.Option.{none, some}
use lib.ListN.{length}
use native.Mathlib.Numerals.{add-one}
use native.Mathlib.Omega.{arith}
use Rattle.book.specs.declared.Layout.{Layout}
use Rattle.book_laws.specs.Check.{offset_is, records_end}
use Rattle.book_laws.specs.Cursor.{Sound, Step, Stepped, name_in}
use Rattle.book_laws.specs.declared.Cursor.{Cursor}
use Rattle.book_record_read.proofs.Steps.{next_sound, start_sound}

-- c stands behind the records of the positions before its index
pub record Walking (l : Layout) (buf : List ℕ) (n start : ℕ) (c : Cursor) : Type 0 where
  pub sound : Sound buf c
  pub within : c.index ≤ n
  pub left : records_end l (n - c.index) n c.index (name_in c) c.at buf ≡ records_end l n n 0 [] start buf

pub walk_start :
    (l : Layout) (buf name : List ℕ) (n start : ℕ) → start ≤ length buf
    → Walking l buf n start (record { at = start; index = 0; name = name; len = 0 })
walk_start l buf name n start h =
    let z : n - 0 ≡ n = omega arith in
    record { sound = start_sound buf name start h; within = omega arith; left = rw z }

-- a turn: o is what the test of the offset said, t the step
module _
    {l : Layout} {buf : List ℕ} {n start : ℕ} {c : Cursor} (g : Walking l buf n start c) (lt : c.index < n) {o : Bool}
    (tested : o ≡ offset_is l n c.index c.at buf)
  where
    one_more_lem : n - c.index ≡ suc (n - suc c.index)
    one_more_lem = omega arith

    pub walk_misplaced : o ≡ false → records_end l n n 0 [] start buf ≡ none
    walk_misplaced f = sym (rw (one_more_lem, ← tested, f) at g.left)

    module _ (here : o ≡ true) {t : Step} (s : Stepped l.heads buf c t) where
      pub walk_turn : t.ok ≡ true → Walking l buf n start t.next
      walk_turn k =
          let d = s.next k in
          record {
            sound = next_sound l.heads buf c t s k;
            within = omega (arith, d.index);
            left = rw (d.index, d.name, d.at, add-one) (rw (one_more_lem, ← tested, here, ← s.ok, k) at g.left);
          }

pub walk_end :
    {l : Layout} {buf : List ℕ} {n start : ℕ} {c : Cursor} → Walking l buf n start c → n ≤ c.index
    → records_end l n n 0 [] start buf ≡ some c.at
walk_end {n = n} {c = c} g h = let z : n - c.index ≡ 0 = omega arith in sym (rw z at g.left)

-- The bytes of a record, in its two forms, and the stores that leave them.
use Prim.Native.Nat.{◌+◌, ◌-◌, ℕ}
use mathlib.Core.Path.{◌∙◌, ◌≡◌, sym}
use mathlib.Core.Logic.{◌⊎◌, inl, inr}
use mathlib.Core.Bool.{Bool, false, true}
use mathlib.Core.List.{List}
use lib.ListN.{drop, length, length-drop, set, take}
use lib.Seq.{sets}
use native.Mathlib.Numerals.{add-one, add-two}
use native.Mathlib.Omega.{arith}
use Rattle.octets.specs.Octets.{common}
use Rattle.book.specs.Records.{head_at, record_of}
use Rattle.book_record_write.specs.Written.{head_record, tail_record}
use Rattle.octets.proofs.Stores.{to_end}

module _ (heads : Bool) (i : ℕ) (prev w : List ℕ) where
  pub record_head : head_at heads i ≡ true → record_of heads i prev w ≡ head_record w
  unfolding record_of
  record_head e = rw e

  pub record_tail : head_at heads i ≡ false → record_of heads i prev w ≡ tail_record prev w
  unfolding record_of
  record_tail e = rw e

-- a head does not depend on the name before
pub same_record :
    (heads : Bool) (i : ℕ) (prev other w : List ℕ) → (prev ≡ other) ⊎ (head_at heads i ≡ true)
    → record_of heads i prev w ≡ record_of heads i other w
same_record heads i prev other w (inl e) = rw e
same_record heads i prev other w (inr e) = record_head heads i prev w e ∙ sym (record_head heads i other w e)

pub tail_length : (prev w : List ℕ) → length (tail_record prev w) ≡ 2 + (length w - common prev w)
tail_length prev w = omega (arith, length-drop (common prev w) w)

pub head_stores : (d w : List ℕ) (at : ℕ) → sets (set d at (length w)) (at + 1) w ≡ sets d at (head_record w)
head_stores d w at = rw add-one

-- the rest as the code takes it, from the common byte on
abbrev pub rest_of : List ℕ → ℕ → List ℕ
rest_of w k = take (length w - k) (drop k w)

pub rest_length : (w : List ℕ) (k : ℕ) → length (rest_of w k) ≡ length w - k
rest_length w k = rw (to_end w k) (length-drop k w)

pub tail_stores :
    (d prev w : List ℕ) (at k : ℕ) → k ≡ common prev w
    → sets (set (set d at k) (at + 1) (length (rest_of w k))) (at + 2) (rest_of w k) ≡ sets d at (tail_record prev w)
tail_stores d prev w at k e = rw (rest_length w k, to_end w k, add-one, add-two, e)

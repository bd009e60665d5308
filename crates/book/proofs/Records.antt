-- Records read back give the names that they were written from, with heads or without.
use Prim.Native.Nat.{◌+◌, ◌-◌, suc, ℕ}
use mathlib.Core.Path.{◌≡◌, ap, refl}
use mathlib.Core.Bool.{Bool, false, false≢true, true}
use mathlib.Core.List.{List, [], ◌++◌, ◌∷◌, append_assoc}
use lib.ListN.{drop, length, length-drop, take-append-drop}
use lib.Seq.{drop-append_seam, take-append_seam, take_at}
use native.Mathlib.Omega.{arith}
use Rattle.octets.specs.Octets.{common}
use Rattle.octets.proofs.Coding.{common-take}
use Rattle.octets.proofs.Tests.{by_test}
use Rattle.book.specs.Records.{bucket_head, head_at, last_or, names_from, record_length, record_name, record_of, records}

-- a position is a head where there are heads and a bucket begins there
pub head_there : (heads : Bool) (i : ℕ) → heads ≡ true → bucket_head i ≡ true → head_at heads i ≡ true
head_there true i on h = h
head_there false i on h = absurd (false≢true on)

pub head_parts : (heads : Bool) (i : ℕ) → head_at heads i ≡ true → (heads ≡ true) × (bucket_head i ≡ true)
head_parts true i h = (refl, h)
head_parts false i h = absurd (false≢true h)

module _ (heads : Bool) where
  -- one record, whatever follows it
  pub record_name_of : (i : ℕ) (prev w rest : List ℕ) → record_name heads i prev (record_of heads i prev w ++ rest) ≡ w
  unfolding record_name record_of
  record_name_of i prev w rest =
      by_test (head_at heads i)
      (λ e. rw e (take-append_seam w rest))
      (λ e.
      rw (
        e,
        common-take prev w,
        take_at (drop (common prev w) w) rest (length w - common prev w) (length-drop (common prev w) w),
      )
      (take-append-drop (common prev w) w))

  pub record_length_of :
      (i : ℕ) (prev w rest : List ℕ) → record_length heads i (record_of heads i prev w
      ++ rest) ≡ length (record_of heads i prev w)
  unfolding record_length record_of
  record_length_of i prev w rest =
      by_test (head_at heads i) (λ e. rw e (omega arith)) (λ e. rw (e, length-drop) (omega arith))

  -- the names of records
  pub names_from_of :
      (ws : List (List ℕ)) (i : ℕ) (prev rest : List ℕ)
      → names_from heads (length ws) i prev (records heads i prev ws ++ rest) ≡ ws
  names_from_of [] i prev rest = refl
  names_from_of (w ∷ ws) i prev rest =
      rw (
        append_assoc (record_of heads i prev w) (records heads (suc i) w ws) rest,
        record_name_of i prev w,
        record_length_of i prev w,
        drop-append_seam (record_of heads i prev w),
      )
      (ap (λ l. w ∷ l) (names_from_of ws (suc i) w rest))

  -- records of names in two runs
  pub records-append :
      (vs ws : List (List ℕ)) (i : ℕ) (prev : List ℕ)
      → records heads i prev (vs ++ ws) ≡ records heads i prev vs
      ++ records heads (i + length vs) (last_or prev vs) ws
  records-append [] ws i prev = let z : i + 0 ≡ i = omega arith in rw z
  records-append (v ∷ vs) ws i prev =
      let z : i + suc (length vs) ≡ suc i + length vs = omega arith in
      rw (z, append_assoc (record_of heads i prev v)) (ap (λ l. record_of heads i prev v
      ++ l) (records-append vs ws (suc i) v))

-- Bytes stored one part behind the other are stored as one.
use Prim.Native.Nat.{◌+◌, ◌<◌, ◌≤◌, ℕ}
use mathlib.Core.Path.{◌∙◌, ◌≡◌, refl}
use mathlib.Core.List.{List, [], ◌++◌, ◌∷◌}
use lib.ListN.{length, length-append, set}
use lib.Seq.{length-sets, sets}
use native.Mathlib.Omega.{arith}
use Rattle.octets.proofs.Stores.{sets-append}
use Rattle.octets_laws.specs.Printed.{Printed}

pub put_size : {out : List ℕ} {at : ℕ} {xs : List ℕ} {end : ℕ} {left : List ℕ} → Printed out at xs end left
    → length left ≡ length out
put_size {out} {at} {xs} p = rw p.stored (length-sets out at xs)

pub put_append :
    {out : List ℕ} {at : ℕ} {xs ys : List ℕ} {m : ℕ} {mid : List ℕ} {end : ℕ} {left : List ℕ} → Printed out at xs m mid
    → Printed mid m ys end left
    → Printed out at (xs ++ ys) end left
put_append {out} {at} {xs} {ys} p q =
    record {
      stored = q.stored ∙ rw (p.stored, p.ends) (sets-append out xs ys at);
      ends = omega (arith, p.ends, q.ends, length-append xs ys);
      inside = omega (arith, q.inside, put_size p);
    }

pub put_byte : (out : List ℕ) (at b : ℕ) → at < length out → Printed out at (b ∷ []) (at + 1) (set out at b)
put_byte out at b h = record { stored = refl; ends = refl; inside = omega arith }

pub put_part :
    (out : List ℕ) (at : ℕ) (xs : List ℕ) {left : List ℕ} → at + length xs ≤ length out → left ≡ sets out at xs
    → Printed out at xs (at + length xs) left
put_part out at xs h e = record { stored = e; ends = refl; inside = h }

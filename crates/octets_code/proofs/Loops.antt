-- Bytes at an index, equality by the bytes, bytes stored past the end.
use Prim.Native.Nat.{◌+◌, ◌<◌, ◌≤◌, suc, ℕ}
use mathlib.Core.Path.{◌≡◌, refl}
use mathlib.Core.Bool.{false}
use mathlib.Core.List.{List, [], ◌∷◌}
use lib.Dec.{eqb}
use lib.ListN.{drop, get_or, length}
use lib.Seq.{drop-cons, set_out, sets}
use native.Mathlib.Numerals.{add-one}
use native.Mathlib.Omega.{arith}
use Rattle.octets.specs.Octets.{begins, same}
use Rattle.octets.proofs.Tests.{by_test}

-- a list from index i on: its next element
pub drop_next : (s : List ℕ) (i : ℕ) → i < length s → drop i s ≡ get_or s i 0 ∷ drop (i + 1) s
drop_next s i h = rw add-one (drop-cons s i 0 h)

-- equality, of lists of one length and of others
pub same-begins : (a b : List ℕ) → length a ≡ length b → same a b ≡ begins a b
same-begins [] [] e = refl
same-begins [] (y ∷ b) e = absurd (omega arith)
same-begins (x ∷ a) [] e = refl
same-begins (x ∷ a) (y ∷ b) e = let ih = same-begins a b (omega arith) in rw ih

pub same_apart : (a b : List ℕ) → (length a ≡ length b → ⊥) → same a b ≡ false
same_apart [] [] n = absurd (n refl)
same_apart [] (y ∷ b) n = refl
same_apart (x ∷ a) [] n = refl
same_apart (x ∷ a) (y ∷ b) n = by_test (eqb x y) (λ t. rw t (same_apart a b (λ e. n (omega arith)))) (λ t. rw t)

-- what is stored past the end is left out
pub sets_out : (l : List ℕ) (i : ℕ) (vs : List ℕ) → length l ≤ i → sets l i vs ≡ l
sets_out l i [] h = refl
sets_out l i (v ∷ vs) h = rw (set_out l i v h) (sets_out l (suc i) vs (omega arith))

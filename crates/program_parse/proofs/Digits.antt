-- Bytes at the front that pass a test, counted one by one; digits, valued one by one.
use Prim.Native.Nat.{◌*◌, ◌+◌, ◌-◌, ◌<◌, ◌^◌, ◌≤◌, suc, ℕ}
use mathlib.Core.Path.{◌∙◌, ◌≡◌, ap, refl, sym}
use mathlib.Core.Bool.{Bool, false, true}
use mathlib.Core.List.{List, [], ◌∷◌}
use lib.Dec.{leb}
use lib.ListN.{drop, drop_of_length-le, get_or, length}
use native.Mathlib.Nat.{pow-le-pow_right}
use native.Mathlib.Numerals.{add-one}
use native.Mathlib.Omega.{arith}
use borrow.Author.Tests.{leb-false, leb-true}
use Rattle.octets.specs.Decimal.{value_on}
use Rattle.octets_code.proofs.Loops.{drop_next}
use Rattle.octets.proofs.Tests.{and_true_both, by_test}
use Rattle.program.specs.Program.{digits, front, is_digit}

digit_range : (b : ℕ) → is_digit b ≡ true → (48 ≤ b) × (b ≤ 57)
digit_range b h =
    let p = and_true_both (leb 48 b) (leb b 57) h in
    (leb-true 48 b p.0, leb-true b 57 p.1)

-- the bytes from index i on that pass a test: the next one, another byte, the end
module _ (p : ℕ → Bool) (s : List ℕ) (i : ℕ) where
  front_next : i < length s → p (get_or s i 0) ≡ true → front p (drop i s) ≡ get_or s i 0 ∷ front p (drop (i + 1) s)
  front_next h d = rw (drop_next s i h, d)

  front-none : i < length s → p (get_or s i 0) ≡ false → front p (drop i s) ≡ []
  front-none h d = rw (drop_next s i h, d)

  front_end : length s ≤ i → front p (drop i s) ≡ []
  front_end h = rw (drop_of_length-le s {i = i} h)

  front_stand : 0 < length (front p (drop i s)) → (i < length s) × (p (get_or s i 0) ≡ true)
  front_stand h =
      by_test (leb (length s) i)
      (λ t. absurd (omega (arith, ap length (front_end (leb-true (length s) i t)))))
      (λ t.
      let l : i < length s = leb-false (length s) i t in
      by_test (p (get_or s i 0)) (λ d. (l, d)) (λ d. absurd (omega (arith, ap length (front-none l d)))))

pub front_most : (p : ℕ → Bool) (s : List ℕ) → length (front p s) ≤ length s
front_most p [] = omega arith
front_most p (b ∷ s) = let ih = front_most p s in by_test (p b) (λ t. rw t (omega arith)) (λ t. rw t (omega arith))

-- Counting: those counted and those that are left.
pub record Counting (p : ℕ → Bool) (s : List ℕ) (i : ℕ) : Type 0 where
  pub within : i ≤ length s
  pub left : i + length (front p (drop i s)) ≡ length (front p s)

pub count_start : (p : ℕ → Bool) (s : List ℕ) → Counting p s 0
count_start p s = record { within = omega arith; left = omega arith }

module _ {p : ℕ → Bool} {s : List ℕ} {i : ℕ} (k : Counting p s i) where
  pub count_on : i < length s → p (get_or s i 0) ≡ true → Counting p s (i + 1)
  count_on h d = record { within = omega arith; left = omega (arith, ap length (front_next p s i h d), k.left) }

  pub count_stop : i < length s → p (get_or s i 0) ≡ false → i ≡ length (front p s)
  count_stop h d = omega (arith, ap length (front-none p s i h d), k.left)

  pub count_end : length s ≤ i → i ≡ length (front p s)
  count_end h = omega (arith, ap length (front_end p s i h), k.left)

-- Valuing: what is left, on the value so far, gives the whole value.
pub record Valuing (s : List ℕ) (n i v : ℕ) : Type 0 where
  pub within : i ≤ n
  pub left : i + length (digits (drop i s)) ≡ n
  pub small : v < 10 ^ i
  pub value : value_on v (digits (drop i s)) ≡ value_on 0 (digits s)

pub value_start : (s : List ℕ) {n : ℕ} → n ≡ length (digits s) → Valuing s n 0 0
value_start s e = record { within = omega arith; left = omega arith; small = omega arith; value = refl }

module _ {s : List ℕ} {n i v : ℕ} (k : Valuing s n i v) where
  module _ (h : i < n) where
    stands : (i < length s) × (is_digit (get_or s i 0) ≡ true)
    stands = front_stand is_digit s i (omega (arith, k.left))

    pub value_in : i < length s
    value_in = stands.0

    pub value_digit : (48 ≤ get_or s i 0) × (get_or s i 0 ≤ 57)
    value_digit = digit_range (get_or s i 0) stands.1

    pub value_on_lem : Valuing s n (i + 1) (v * 10 + (get_or s i 0 - 48))
    value_on_lem =
        let d = value_digit in
        let e = front_next is_digit s i stands.0 stands.1 in
        let t : v * 10 + (get_or s i 0 - 48) < 10 ^ suc i = omega (arith, k.small, d.0, d.1) in
        record {
          within = omega arith;
          left = omega (arith, ap length e, k.left);
          small = rw (add-one i) t;
          value = rw e at k.value;
        }

    pub value_fits : n ≤ 10 → v < 1000000000
    value_fits m = let p : 10 ^ i ≤ 10 ^ 9 = pow-le-pow_right (omega arith) {i = i} {j = 9} (omega arith) in
        omega (arith, k.small)

  pub value_end : n ≤ i → v ≡ value_on 0 (digits s)
  value_end h =
      let z = none (digits (drop i s)) (omega (arith, k.left)) in
      ap (value_on v) (sym z) ∙ k.value
    where
      none : (l : List ℕ) → length l ≡ 0 → l ≡ []
      none [] e = refl
      none (x ∷ l) e = absurd (omega arith)

-- The fields of a header byte have no bit in common, so that putting them together adds them.
use Prim.Native.Nat.{◌%◌, ◌*◌, ◌+◌, ◌<◌, ◌≤◌, ℕ}
use mathlib.Core.Path.{◌∙◌, ◌≡◌, ap, refl}
use mathlib.Core.Bool.{Bool, false, true}
use Rattle.std.specs.Int.{from_bool}
use lib.Bits.{and_mask, bit_and, bit_or, or_shifted}
use lib.Dec.{eqb, lit<}
use native.Mathlib.Omega.{arith}
use borrow.Author.Tests.{eqb-false}
use Rattle.octets.specs.Lists.{if◌then◌otherwise◌}
use Rattle.octets.proofs.Tests.{by_test}
use Rattle.trie.specs.Trie.{code_of, header_byte}

-- a code takes two bits
code_small : (size : ℕ) → size ≤ 4 → code_of size < 4
code_small size h = by_test (eqb size 4) (λ t. rw t (lit< tt)) (λ t. rw t (let q = eqb-false size 4 t in omega arith))

-- the four fields, each shifted or masked into its place
abbrev pub fields : ℕ → ℕ → ℕ → ℕ → ℕ
fields s c m l = bit_or (s * 64 % 256) (bit_or (c * 16 % 256) (bit_or (m * 8 % 256) (bit_and l 7)))

-- the score's code s, the child's c, the mark m, the label's length l
packed : (s c m l : ℕ) → s < 4 → c < 4 → m < 2 → l < 8 → fields s c m l ≡ s * 64 + (c * 16 + (m * 8 + l))
packed s c m l hs hc hm hl =
    let ms : s * 64 % 256 ≡ s * 64 = omega (arith, hs) in
    let mc : c * 16 % 256 ≡ c * 16 = omega (arith, hc) in
    let mm : m * 8 % 256 ≡ m * 8 = omega (arith, hm) in
    let ml : bit_and l 7 ≡ l = and_mask l 3 ∙ omega (arith, hl) in
    (λ i. bit_or (ms i) (bit_or (mc i) (bit_or (mm i) (ml i))))
    ∙ ap (λ (k : ℕ). bit_or (s * 64) (bit_or (c * 16) k)) (or_shifted m 3 l hl)
    ∙ ap (bit_or (s * 64)) (or_shifted c 4 (m * 8 + l) (omega (arith, hm, hl)))
    ∙ or_shifted s 6 (c * 16 + (m * 8 + l)) (omega (arith, hc, hm, hl))

-- the mark of a flag, as the library makes it
pub is_bit : (last : Bool) {m : ℕ} → m ≡ from_bool last → m ≡ (if last then 1 otherwise 0)
is_bit last e = e ∙ go last
  where
    go : (b : Bool) → from_bool b ≡ (if b then 1 otherwise 0)
    go true = refl
    go false = refl

-- the header byte, from codes and mark that were computed
pub header_packed :
    (score child : ℕ) (last : Bool) (label : ℕ) {s c m : ℕ} → score ≤ 4 → child ≤ 4 → label < 8
    → s ≡ code_of score → c ≡ code_of child → m ≡ (if last then 1 otherwise 0)
    → fields s c m label ≡ header_byte score child last label
unfolding header_byte
header_packed score child last label {s} {c} {m} hs hc hl es ec em = rw (es, ec, em) (go last)
  where
    go : (b : Bool) → fields (code_of score) (code_of child) (if b then 1 otherwise 0) label
        ≡ code_of score * 64 + code_of child * 16 + (if b then 8 otherwise 0) + label
    go true = packed _ _ 1 label (code_small score hs) (code_small child hc) (lit< tt) hl ∙ omega arith
    go false = packed _ _ 0 label (code_small score hs) (code_small child hc) (lit< tt) hl ∙ omega arith

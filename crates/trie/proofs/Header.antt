-- The sizes of fields and the four fields of a header byte.
use Prim.Native.Nat.{◌%◌, ◌*◌, ◌+◌, ◌/◌, ◌<◌, ◌^◌, ◌≤◌, suc, zero, ℕ}
use mathlib.Core.Path.{◌∙◌, ◌≡◌, ap, refl}
use mathlib.Core.Bool.{Bool, false}
use lib.Dec.{eqb, ltb}
use native.Mathlib.Omega.{arith}
use borrow.Author.Tests.{eq-eqb, eqb-true, ltb-true, ne_eqb}
use Rattle.octets.specs.Lists.{if◌then◌otherwise◌}
use Rattle.octets.proofs.Tests.{by_test}
use Rattle.trie.specs.Reading.{child_size, label_length, last_mark, score_size, size_at}
use Rattle.trie.specs.Trie.{code_of, header_byte, own_size, size_of}

-- sizes of fields
pub record Size (c : ℕ) : Type 0 where
  pub back : size_at (code_of c) ≡ c
  pub small : code_of c < 4

pub size_of_size : (v : ℕ) → Size (size_of v)
size_of_size v =
    by_test (eqb v 0) (λ a. rw a (record { back = refl; small = omega arith }))
    (λ a.
    by_test (ltb v 256) (λ b. rw (a, b) (record { back = refl; small = omega arith }))
    (λ b.
    by_test (ltb v 65536) (λ c. rw (a, b, c) (record { back = refl; small = omega arith }))
    (λ c. rw (a, b, c) (record { back = refl; small = omega arith }))))

pub size_of_fits : (v : ℕ) → v < 2 ^ 32 → v < 256 ^ size_of v
size_of_fits v h =
    by_test (eqb v 0) (λ a. rw a (let q = eqb-true v 0 a in omega arith))
    (λ a.
    by_test (ltb v 256) (λ b. rw (a, b) (ltb-true v 256 b))
    (λ b. by_test (ltb v 65536) (λ c. rw (a, b, c) (ltb-true v 65536 c)) (λ c. rw (a, b, c) h)))

-- the fields of a header byte
module _ (ss cs : ℕ) (last : Bool) (len : ℕ) (s : Size ss) (c : Size cs) (l : len < 8) where
  pub header_label : label_length (header_byte ss cs last len) ≡ len
  unfolding header_byte label_length
  header_label = by_test last (λ t. rw t (omega arith)) (λ t. rw t (omega arith))

  pub header_last : last_mark (header_byte ss cs last len) ≡ last
  unfolding header_byte last_mark
  header_last =
      by_test last
      (λ t. rw t (eq-eqb ((code_of ss * 64 + code_of cs * 16 + 8 + len) / 8 % 2) 1 (omega arith)))
      (λ t. rw t (ne_eqb ((code_of ss * 64 + code_of cs * 16 + 0 + len) / 8 % 2) 1 (λ q. omega arith)))

  pub header_score : score_size (header_byte ss cs last len) ≡ ss
  unfolding header_byte score_size
  header_score =
      let q : (code_of ss * 64 + code_of cs * 16 + (if last then 8 otherwise 0) + len) / 64 ≡ code_of ss =
      by_test last (λ t. rw t (omega arith)) (λ t. rw t (omega arith))
      in
      ap size_at q ∙ s.back

  pub header_child : child_size (header_byte ss cs last len) ≡ cs
  unfolding header_byte child_size
  header_child =
      let q : (code_of ss * 64 + code_of cs * 16 + (if last then 8 otherwise 0) + len) / 16 % 4 ≡ code_of cs =
      by_test last (λ t. rw t (omega arith)) (λ t. rw t (omega arith))
      in
      ap size_at q ∙ c.back

pub size_of_nonzero : (v : ℕ) → eqb v 0 ≡ false → eqb (size_of v) 0 ≡ false
size_of_nonzero v a =
    by_test (ltb v 256) (λ b. rw (a, b)) (λ b. by_test (ltb v 65536) (λ c. rw (a, b, c)) (λ c. rw (a, b, c)))

pub own_size_size : (r : ℕ) → Size (own_size r)
own_size_size r =
    by_test (ltb (r + 1) 256) (λ a. rw a (record { back = refl; small = omega arith }))
    (λ a. by_test (ltb (r + 2) 65536) (λ b. rw (a, b) (record { back = refl; small = omega arith }))
    (λ b. rw (a, b) (record { back = refl; small = omega arith })))

pub own_size_nonzero : (r : ℕ) → eqb (own_size r) 0 ≡ false
own_size_nonzero r = by_test (ltb (r + 1) 256) (λ a. rw a)
    (λ a. by_test (ltb (r + 2) 65536) (λ b. rw (a, b)) (λ b. rw (a, b)))

-- at most 4 bytes
pub size_of_most : (v : ℕ) → size_of v ≤ 4
size_of_most v =
    by_test (eqb v 0) (λ a. rw a (omega arith))
    (λ a. by_test (ltb v 256) (λ b. rw (a, b) (omega arith))
    (λ b. by_test (ltb v 65536) (λ c. rw (a, b, c) (omega arith)) (λ c. rw (a, b, c) (omega arith))))

pub own_size_most : (r : ℕ) → own_size r ≤ 4
own_size_most r = by_test (ltb (r + 1) 256) (λ a. rw a (omega arith))
    (λ a. by_test (ltb (r + 2) 65536) (λ b. rw (a, b) (omega arith)) (λ b. rw (a, b) (omega arith)))

-- sizes that a header says
pub record Said (c : ℕ) : Type 0 where
  pub size : Size (size_at c)
  pub code : code_of (size_at c) ≡ c
  pub most : size_at c ≤ 4
  pub four : size_at c ≡ 3 → ⊥

pub said : (c : ℕ) → c < 4 → Said c
said zero h = record {
  size = record { back = refl; small = omega arith };
  code = refl;
  most = omega arith;
  four = λ q. omega arith;
}
said (suc zero) h = record {
  size = record { back = refl; small = omega arith };
  code = refl;
  most = omega arith;
  four = λ q. omega arith;
}
said (suc (suc zero)) h = record {
  size = record { back = refl; small = omega arith };
  code = refl;
  most = omega arith;
  four = λ q. omega arith;
}
said (suc (suc (suc zero))) h = record {
  size = record { back = refl; small = omega arith };
  code = refl;
  most = omega arith;
  four = λ q. omega arith;
}
said (suc (suc (suc (suc c)))) h = absurd (omega arith)

-- how large the fields of a header can be
pub score_most : (h : ℕ) → h < 256 → (score_size h ≤ 4) × (score_size h ≡ 3 → ⊥)
unfolding score_size
score_most h l = let a = said (h / 64) (omega arith) in (a.most, a.four)

pub child_most : (h : ℕ) → (child_size h ≤ 4) × (child_size h ≡ 3 → ⊥)
unfolding child_size
child_most h = let a = said (h / 16 % 4) (omega arith) in (a.most, a.four)

pub label_most : (h : ℕ) → label_length h < 8
unfolding label_length
label_most h = omega arith

-- Texts sign by sign: allowed exactly if no half is open behind the last byte, whichever way the text is cut in two.
use Prim.Native.Nat.{◌+◌, ◌-◌, suc, zero, ℕ}
use mathlib.Core.Path.{◌∙◌, ◌≡◌, ap, refl, sym}
use mathlib.Core.Bool.{Bool, ◌&&◌, and-true, false, or-false, true}
use mathlib.Core.List.{List, [], ◌++◌, ◌∷◌}
use lib.Dec.{eqb, leb}
use lib.ListN.{drop, take, take-append-drop}
use native.Mathlib.Omega.{arith}
use borrow.Author.Tests.{eqb-true, leb-true, ne_eqb}
use Rattle.octets.proofs.Tests.{and_true_both as and_parts, by_test}
use Rattle.octets.specs.Lists.{all, if◌then◌otherwise◌}
use Rattle.entries.specs.Names.{allowed_bytes, is_pair, is_plain}
use Rattle.entries_laws.specs.Signs.{broken_half, half_after, half_step, is_tail, micro_half, no_half, ohm_half}

-- the definition's step, by its cases
pub first_sign : (a b : ℕ) (w : List ℕ) (t : Bool) → is_plain a ≡ t
    → allowed_bytes (a ∷ b ∷ w) ≡ (if t then allowed_bytes (b ∷ w) otherwise (is_pair a b && allowed_bytes w))
unfolding allowed_bytes
first_sign a b w true t = ap (λ x. elim x [ true ↦ allowed_bytes (b ∷ w) | false ↦ is_pair a b && allowed_bytes w ]) t
first_sign a b w false t = ap (λ x. elim x [ true ↦ allowed_bytes (b ∷ w) | false ↦ is_pair a b && allowed_bytes w ]) t

-- behind a text in two parts
pub half_append : (h : ℕ) (v w : List ℕ) → half_after h (v ++ w) ≡ half_after (half_after h v) w
half_append h [] w = refl
half_append h (b ∷ v) w = half_append (half_step h b) v w

-- no text goes on behind a byte that cannot stand in its place
pub half_broken : (w : List ℕ) → half_after broken_half w ≡ broken_half
half_broken [] = refl
half_broken (b ∷ w) = half_broken w

pub lead_not_pair : (a b : ℕ) → eqb a 0xC2 ≡ false → eqb a 0xCE ≡ false → is_pair a b ≡ false
lead_not_pair a b s t = rw (s, t)

pub micro-pair : (a b : ℕ) → eqb a 0xC2 ≡ true → is_pair a b ≡ eqb b 0xB5
micro-pair a b t =
    let q = eqb-true a 0xC2 t in
    rw (t, ne_eqb a 0xCE (λ z. omega arith), and-true (eqb b 0xB5)) (or-false (eqb b 0xB5))

pub ohm-pair : (a b : ℕ) → eqb a 0xC2 ≡ false → eqb a 0xCE ≡ true → is_pair a b ≡ eqb b 0xA9
ohm-pair a b s t = rw (s, t) (and-true (eqb b 0xA9))

-- what follows the first half of a pair
after_lead : (c x : ℕ) (w : List ℕ) (v : Bool) → v ≡ eqb (half_after no_half w) no_half
    → (eqb x c && v) ≡ eqb (half_after (if eqb x c then no_half otherwise broken_half) w) no_half
after_lead c x w v ih = by_test (eqb x c) (λ t. rw t ih) (λ t. rw (t, half_broken w))

-- a text is allowed exactly if it ends between signs
pub allowed_half : (w : List ℕ) → allowed_bytes w ≡ eqb (half_after no_half w) no_half
unfolding allowed_bytes
allowed_half [] = refl
allowed_half (a ∷ []) =
    by_test (is_plain a)
    (λ t. rw t)
    (λ t. by_test (eqb a 0xC2) (λ s. rw (t, s)) (λ s. by_test (eqb a 0xCE) (λ u. rw (t, s, u)) (λ u. rw (t, s, u))))
allowed_half (a ∷ b ∷ w) =
    by_test (is_plain a)
    (λ t. first_sign a b w true t ∙ allowed_half (b ∷ w) ∙ rw t)
    (λ t.
    first_sign a b w false t
    ∙ by_test (eqb a 0xC2)
    (λ s. rw (t, micro-pair a b s, s) (after_lead 0xB5 b w (allowed_bytes w) (allowed_half w)))
    (λ s.
    by_test (eqb a 0xCE)
    (λ u. rw (t, ohm-pair a b s u, s, u) (after_lead 0xA9 b w (allowed_bytes w) (allowed_half w)))
    (λ u. rw (t, lead_not_pair a b s u, s, u, half_broken w))))

-- allowed texts in two parts
pub allowed-append : (v w : List ℕ) → allowed_bytes (v ++ w) ≡ eqb (half_after (half_after no_half v) w) no_half
allowed-append v w = allowed_half (v ++ w) ∙ ap (λ h. eqb h no_half) (half_append no_half v w)

pub allowed_behind : (v w : List ℕ) → allowed_bytes v ≡ true → allowed_bytes (v ++ w) ≡ allowed_bytes w
allowed_behind v w h =
    let q = eqb-true (half_after no_half v) no_half (sym (allowed_half v) ∙ h) in
    allowed-append v w ∙ ap (λ g. eqb (half_after g w) no_half) q ∙ sym (allowed_half w)

-- where an allowed text may be cut: between signs, or in front of the other half of a pair
pub data CutAt : ℕ → List ℕ → Type 0 where
  between : {w : List ℕ} → CutAt no_half w
  in_micro : {w : List ℕ} → CutAt micro_half (0xB5 ∷ w)
  in_ohm : {w : List ℕ} → CutAt ohm_half (0xA9 ∷ w)

pub cut_at : (h : ℕ) (w : List ℕ) → half_after h w ≡ no_half → CutAt h w
cut_at zero w e = between
cut_at (suc zero) [] e = absurd (omega arith)
cut_at (suc zero) (x ∷ w) e =
    by_test (eqb x 0xB5)
    (λ t. rw (eqb-true x 0xB5 t) in_micro)
    (λ t. absurd (let z : broken_half ≡ no_half = sym (half_broken w) ∙ (rw t at e) in omega arith))
cut_at (suc (suc zero)) [] e = absurd (omega arith)
cut_at (suc (suc zero)) (x ∷ w) e =
    by_test (eqb x 0xA9)
    (λ t. rw (eqb-true x 0xA9 t) in_ohm)
    (λ t. absurd (let z : broken_half ≡ no_half = sym (half_broken w) ∙ (rw t at e) in omega arith))
cut_at (suc (suc (suc h))) [] e = absurd (omega arith)
cut_at (suc (suc (suc h))) (x ∷ w) e = absurd (let z : broken_half ≡ no_half = sym (half_broken w) ∙ e in omega arith)

pub half_cut : (k : ℕ) (w : List ℕ) → allowed_bytes w ≡ true
    → half_after (half_after no_half (take k w)) (drop k w) ≡ no_half
half_cut k w h =
    sym (half_append no_half (take k w) (drop k w))
    ∙ ap (half_after no_half) (take-append-drop k w)
    ∙ eqb-true (half_after no_half w) no_half (sym (allowed_half w) ∙ h)

pub cut_allowed : (k : ℕ) (w : List ℕ) → allowed_bytes w ≡ true → CutAt (half_after no_half (take k w)) (drop k w)
cut_allowed k w h = cut_at (half_after no_half (take k w)) (drop k w) (half_cut k w h)

-- between signs no text goes on with the other half of a pair
pub whole_first : (x : ℕ) (w : List ℕ) → half_after no_half (x ∷ w) ≡ no_half → is_tail x ≡ false
whole_first x w e =
    by_test (is_tail x)
    (λ t.
    absurd
    (let z : broken_half ≡ no_half = sym (half_broken w) ∙ sym (ap (λ h. half_after h w) (tail_breaks x t)) ∙ e in
    omega arith))
    (λ t. t)
  where
    tail_breaks : (y : ℕ) → is_tail y ≡ true → half_step no_half y ≡ broken_half
    tail_breaks y t =
        by_test (eqb y 0xB5)
        (λ s. rw (eqb-true y 0xB5 s))
        (λ s. let q = eqb-true y 0xA9 (rw s at t) in rw q)

-- bytes that are signs by themselves are allowed, and none is the other half of a pair
pub plain-allowed : (w : List ℕ) → all is_plain w ≡ true → allowed_bytes w ≡ true
unfolding allowed_bytes
plain-allowed [] h = refl
plain-allowed (a ∷ []) h = (and_parts (is_plain a) true h).0
plain-allowed (a ∷ b ∷ w) h =
    let p = and_parts (is_plain a) (all is_plain (b ∷ w)) h in
    first_sign a b w true p.0 ∙ plain-allowed (b ∷ w) p.1

pub plain_whole : (b : ℕ) → is_plain b ≡ true → is_tail b ≡ false
plain_whole b t =
    let q = leb-true b 0x7E (and_parts (leb 0x20 b) (leb b 0x7E) t).1 in
    rw (ne_eqb b 0xB5 (λ z. omega arith), ne_eqb b 0xA9 (λ z. omega arith))

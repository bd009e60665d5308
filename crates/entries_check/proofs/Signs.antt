-- The sign at an index of a text, the loop over the signs, and a part of a text behind an open half.
use Prim.Native.Nat.{◌+◌, ◌-◌, ◌<◌, ◌≤◌, suc, zero, ℕ}
use mathlib.Core.Path.{◌∙◌, ◌≡◌, ap, refl, sym}
use mathlib.Core.Bool.{false, false≢true, true}
use mathlib.Core.List.{List, [], ◌∷◌}
use lib.ListN.{drop, drop_of_length-le, get_or, length, length-drop}
use lib.Seq.{drop-drop}
use native.Mathlib.Omega.{arith}
use borrow.Author.Tests.{eqb-true}
use lib.Dec.{eqb}
use Rattle.octets.specs.Lists.{if◌then◌otherwise◌}
use Rattle.octets.proofs.Tests.{by_test}
use Rattle.octets_code.proofs.Loops.{drop_next}
use Rattle.entries.specs.Names.{is_pair, is_plain, last_sign}
use Rattle.entries_laws.proofs.Prefixes.{same_first_lem}
use Rattle.entries_laws.proofs.Signs.{half_broken, lead_not_pair, micro-pair, ohm-pair}
use Rattle.entries_laws.specs.Halves.{half_number}
use Rattle.entries_laws.specs.declared.Half.TheVariants as half
use Rattle.entries_laws.specs.declared.Half.{Half}
use Rattle.entries_laws.specs.Signs.{broken_half, half_after, half_step, micro_half, no_half, ohm_half}
use Rattle.entries_check.specs.Signs.{NoSign, pair_first}

-- whether a pair stands at an index
module _ (w : List ℕ) (i : ℕ) (h : i < length w) where
  pub pair_cut : length w - i < 2 → pair_first (drop i w) ≡ false
  pair_cut l = let e : drop (i + 1) w ≡ [] = drop_of_length-le w {i = i + 1} (omega arith) in rw (drop_next w i h, e)

  pub pair_here : 2 ≤ length w - i → pair_first (drop i w) ≡ is_pair (get_or w i 0) (get_or w (i + 1) 0)
  pair_here l = rw (drop_next w i h, drop_next w (i + 1) (omega arith))

-- the step over a first half, and over the byte behind it
lead_step : (a b : ℕ) → is_plain a ≡ false
    → half_step (half_step no_half a) b ≡ (if is_pair a b then no_half otherwise broken_half)
lead_step a b t =
    by_test (eqb a 0xC2)
    (λ s. rw (t, micro-pair a b s, s))
    (λ s. by_test (eqb a 0xCE) (λ u. rw (t, ohm-pair a b s u, s, u)) (λ u. rw (t, lead_not_pair a b s u, s, u)))

-- a text goes on behind its first sign; without one nothing goes on but a text that ends
pair_on : (w : List ℕ) → is_plain (get_or w 0 0) ≡ false → pair_first w ≡ true
    → (half_after no_half w ≡ half_after no_half (drop 2 w)) × (2 ≤ length w)
pair_on [] t p = absurd (false≢true p)
pair_on (a ∷ []) t p = absurd (false≢true p)
pair_on (a ∷ b ∷ w) t p =
    let q : half_step (half_step no_half a) b ≡ no_half = lead_step a b t ∙ rw p in
    (ap (λ h. half_after h w) q, omega arith)

pair_off : (w : List ℕ) → NoSign w → 1 < length w → half_after no_half w ≡ broken_half
pair_off [] n l = absurd (omega arith)
pair_off (a ∷ []) n l = absurd (omega arith)
pair_off (a ∷ b ∷ w) n l =
    let q : half_step (half_step no_half a) b ≡ broken_half = lead_step a b n.0 ∙ rw n.1 in
    ap (λ h. half_after h w) q ∙ half_broken w

module _ (w : List ℕ) (i : ℕ) (h : i < length w) where
  here : get_or (drop i w) 0 0 ≡ get_or w i 0
  here = ap (λ u. get_or u 0 0) (drop_next w i h)

  pub no_sign : is_plain (get_or w i 0) ≡ false → pair_first (drop i w) ≡ false → NoSign (drop i w)
  no_sign t p = (ap is_plain here ∙ t, p)

  pub plain_next : is_plain (get_or w i 0) ≡ true
      → half_after no_half (drop i w) ≡ half_after no_half (drop (i + 1) w)
  plain_next t =
      let q : half_step no_half (get_or w i 0) ≡ no_half = rw t in
      ap (half_after no_half) (drop_next w i h) ∙ ap (λ g. half_after g (drop (i + 1) w)) q

  pub pair_next : is_plain (get_or w i 0) ≡ false → pair_first (drop i w) ≡ true
      → (half_after no_half (drop i w) ≡ half_after no_half (drop (i + 2) w)) × (i + 2 ≤ length w)
  pair_next t p =
      let s = pair_on (drop i w) (ap is_plain here ∙ t) p in
      rw (← drop-drop 2 i w) (s.0, omega (arith, s.1, length-drop i w))

  module _ (n : NoSign (drop i w)) where
    pub cut_broken : 1 < length w - i → half_after no_half (drop i w) ≡ broken_half
    cut_broken l = pair_off (drop i w) n (omega (arith, length-drop i w))

    pub cut_lead : length w - i ≤ 1 → half_after no_half (drop i w) ≡ (if eqb (get_or w i 0) 0xC2 then micro_half otherwise
        if eqb (get_or w i 0) 0xCE then ohm_half otherwise broken_half)
    cut_lead l =
        let z : drop (i + 1) w ≡ [] = drop_of_length-le w {i = i + 1} (omega arith) in
        rw (drop_next w i h, z, sym (ap is_plain here) ∙ n.0)

pub signs_end : (w : List ℕ) (i : ℕ) → length w ≤ i → half_after no_half (drop i w) ≡ no_half
signs_end w i h = rw (drop_of_length-le w h)

-- a text of one byte, or of none, ends in no pair
pub last_short : (w : List ℕ) → length w < 2 → last_sign w ≡ 1
last_short [] h = refl
last_short (a ∷ []) h = rw same_first_lem
last_short (a ∷ b ∷ w) h = absurd (omega arith)

-- no byte closes any other half than that of µ and of Ω
pub closes_none :
    (h : Half) (b : ℕ) → (half_number h ≡ no_half → ⊥) → (h ≡ half.Micro → ⊥) → (h ≡ half.Ohm → ⊥)
    → half_step (half_number h) b ≡ broken_half
closes_none half.None b x y z = absurd (x refl)
closes_none half.Micro b x y z = absurd (y refl)
closes_none half.Ohm b x y z = absurd (z refl)
closes_none half.Broken b x y z = refl

pub closes_one : (c b : ℕ) → eqb b c ≡ eqb (if eqb b c then no_half otherwise broken_half) no_half
closes_one c b = by_test (eqb b c) (λ t. rw t) (λ t. rw t)

-- a part of a text behind a half that is open
module _ (h : ℕ) (w : List ℕ) (o : h ≡ no_half → ⊥) where
  pub part_none : length w ≡ 0 → half_after h w ≡ h
  part_none z = go w z
    where
      go : (v : List ℕ) → length v ≡ 0 → half_after h v ≡ h
      go [] z = refl
      go (x ∷ v) z = absurd (omega arith)

  pub part_broken : (length w ≡ 0 → ⊥) → eqb (half_step h (get_or w 0 0)) no_half ≡ false → half_after h w ≡ broken_half
  part_broken n t = go w h o n t
    where
      go : (v : List ℕ) (g : ℕ) → (g ≡ no_half → ⊥) → (length v ≡ 0 → ⊥)
          → eqb (half_step g (get_or v 0 0)) no_half ≡ false → half_after g v ≡ broken_half
      go [] g o n t = absurd (n refl)
      go (x ∷ v) zero o n t = absurd (o refl)
      go (x ∷ v) (suc zero) o n t =
          by_test (eqb x 0xB5) (λ s. absurd (false≢true (sym t ∙ rw s))) (λ s. rw s (half_broken v))
      go (x ∷ v) (suc (suc zero)) o n t =
          by_test (eqb x 0xA9) (λ s. absurd (false≢true (sym t ∙ rw s))) (λ s. rw s (half_broken v))
      go (x ∷ v) (suc (suc (suc g))) o n t = half_broken v

  pub part_closed : (length w ≡ 0 → ⊥) → eqb (half_step h (get_or w 0 0)) no_half ≡ true
      → half_after h w ≡ half_after no_half (drop 1 w)
  part_closed n t = go w n t
    where
      go : (v : List ℕ) → (length v ≡ 0 → ⊥) → eqb (half_step h (get_or v 0 0)) no_half ≡ true
          → half_after h v ≡ half_after no_half (drop 1 v)
      go [] n t = absurd (n refl)
      go (x ∷ v) n t = ap (λ g. half_after g v) (eqb-true (half_step h x) no_half t)

-- A half and its number: each is the other's, and so behind each text.
use Prim.Native.Nat.{◌<◌, suc, zero, ℕ}
use mathlib.Core.Path.{◌∙◌, ◌≡◌, ap, refl, sym}
use mathlib.Core.Bool.{false, true}
use mathlib.Core.List.{List, [], ◌∷◌}
use lib.Dec.{eqb}
use lib.ListN.{length}
use native.Mathlib.Omega.{arith}
use borrow.Author.Tests.{eqb-false, eqb-true}
use denote.Enum.Bare.{sameb}
use Rattle.octets.proofs.Tests.{by_test}
use Rattle.entries.specs.Names.{is_plain}
use Rattle.entries_laws.specs.Halves.{half_behind, half_number, half_numbered}
use Rattle.entries_laws.specs.Signs.{half_after, half_step, no_half}
use Rattle.entries_laws.specs.contracts.Half.{the_type}
use Rattle.entries_laws.specs.declared.Half.TheVariants as half
use Rattle.entries_laws.specs.declared.Half.{Half}

number_numbered : (g : ℕ) → g < 4 → half_number (half_numbered g) ≡ g
number_numbered zero l = refl
number_numbered (suc zero) l = refl
number_numbered (suc (suc zero)) l = refl
number_numbered (suc (suc (suc zero))) l = refl
number_numbered (suc (suc (suc (suc g)))) l = absurd (omega arith)

pub numbered_number : (h : Half) → half_numbered (half_number h) ≡ h
numbered_number half.None = refl
numbered_number half.Micro = refl
numbered_number half.Ohm = refl
numbered_number half.Broken = refl

number_small : (h : Half) → half_number h < 4
number_small half.None = omega arith
number_small half.Micro = omega arith
number_small half.Ohm = omega arith
number_small half.Broken = omega arith

step_small : (g b : ℕ) → half_step g b < 4
step_small zero b =
    by_test (is_plain b)
    (λ t. rw t (omega arith))
    (λ t.
    by_test (eqb b 0xC2)
    (λ s. rw (t, s) (omega arith))
    (λ s. by_test (eqb b 0xCE) (λ u. rw (t, s, u) (omega arith)) (λ u. rw (t, s, u) (omega arith))))
step_small (suc zero) b = by_test (eqb b 0xB5) (λ t. rw t (omega arith)) (λ t. rw t (omega arith))
step_small (suc (suc zero)) b = by_test (eqb b 0xA9) (λ t. rw t (omega arith)) (λ t. rw t (omega arith))
step_small (suc (suc (suc g))) b = omega arith

after_small : (g : ℕ) (w : List ℕ) → g < 4 → half_after g w < 4
after_small g [] l = l
after_small g (b ∷ w) l = after_small (half_step g b) w (step_small g b)

pub number_behind : (h : Half) (w : List ℕ) → half_number (half_behind h w) ≡ half_after (half_number h) w
number_behind h w = number_numbered (half_after (half_number h) w) (after_small (half_number h) w (number_small h))

-- a half that has the number that is open behind a text is the one behind it
pub behind_numbered : (h : Half) (w : List ℕ) {g : Half} → half_number g ≡ half_after (half_number h) w
    → g ≡ half_behind h w
behind_numbered h w {g} e = rw (← e) (sym (numbered_number g))

-- what the derived test whether no half is open says of the number
pub none_test : (h : Half) → sameb the_type h half.None ≡ eqb (half_number h) no_half
none_test half.None = refl
none_test half.Micro = refl
none_test half.Ohm = refl
none_test half.Broken = refl

pub is_none : (h : Half) → sameb the_type h half.None ≡ true → half_number h ≡ no_half
is_none h e = eqb-true (half_number h) no_half (sym (none_test h) ∙ e)

pub is_open : (h : Half) → sameb the_type h half.None ≡ false → half_number h ≡ no_half → ⊥
is_open h e = eqb-false (half_number h) no_half (sym (none_test h) ∙ e)

-- a step from a number, and from that of the half that it is
step_numbered : (g b : ℕ) → half_step (half_number (half_numbered g)) b ≡ half_step g b
step_numbered zero b = refl
step_numbered (suc zero) b = refl
step_numbered (suc (suc zero)) b = refl
step_numbered (suc (suc (suc g))) b = refl

-- so behind a text that has a byte
pub after_numbered : (g : ℕ) (w : List ℕ) → 0 < length w
    → half_after (half_number (half_numbered g)) w ≡ half_after g w
after_numbered g [] l = absurd (omega arith)
after_numbered g (b ∷ w) l = ap (λ h. half_after h w) (step_numbered g b)

-- `entries_check::cut_at` meets its contract: no sign stands there, so the text ends in a first half or is broken.
-- No loop.
use mathlib.Core.Bool.{false}
use mathlib.Core.Path.{◌∙◌, ◌≡◌, sym}
use lib.Dec.{eqb}
use lib.ListN.{drop, get_or}
use native.Mathlib.Omega.{arith}
use borrow.Author.Tests.{eq-eqb, ne_eqb}
use Rattle.octets.specs.Lists.{if◌then◌otherwise◌}
use Rattle.entries_laws.specs.Signs.{broken_half, half_after, micro_half, no_half, ohm_half}
use Rattle.entries_check.proofs.Signs.{cut_broken, cut_lead}
use Rattle.entries_check.proofs.cut_at.Goals as goal
use Rattle.entries_check.proofs.cut_at.Goals.{Else-w-i-gt1}

-- the last byte says which half is open
lead : (c : Else-w-i-gt1) → let x = get_or c.args.w.now c.args.i 0 in
    half_after no_half (drop c.args.i c.args.w.now) ≡
    (if eqb x 0xC2 then micro_half otherwise if eqb x 0xCE then ohm_half otherwise broken_half)
lead c = cut_lead c.args.w.now c.args.i c.requires.0 c.requires.1 c.if-w-i-gt1.false

pub overflow_sub-w : goal.overflow_sub-w
overflow_sub-w c = omega (arith, c.requires.0)

pub returns-then-w-i-gt1 : goal.returns-then-w-i-gt1
returns-then-w-i-gt1 c =
    sym (cut_broken c.args.w.now c.args.i c.requires.0 c.requires.1 c.if-w-i-gt1.true)

pub bounds-w-i : goal.bounds-w-i
bounds-w-i c = c.requires.0

pub returns-in-194 : goal.returns-in-194
returns-in-194 c = sym (lead (goal.at.returns-in-194 c).Else-w-i-gt1 ∙ rw (eq-eqb _ _ c.in-194.is))

pub returns-in-206 : goal.returns-in-206
returns-in-206 c =
    let other : eqb (get_or c.args.w.now c.args.i 0) 0xC2 ≡ false = ne_eqb _ _ (λ z. omega arith) in
    sym (lead (goal.at.returns-in-206 c).Else-w-i-gt1 ∙ rw (other, eq-eqb _ _ c.in-206.is))

pub returns-in_default : goal.returns-in_default
returns-in_default c =
    let micro : eqb (get_or c.args.w.now c.args.i 0) 0xC2 ≡ false = ne_eqb _ _ (λ z. omega arith) in
    let ohm : eqb (get_or c.args.w.now c.args.i 0) 0xCE ≡ false = ne_eqb _ _ (λ z. omega arith) in
    sym (lead (goal.at.returns-in_default c).Else-w-i-gt1 ∙ rw (micro, ohm))

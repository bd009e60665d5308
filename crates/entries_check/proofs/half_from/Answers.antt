use Prim.Native.Nat.{◌+◌, ◌≤◌}
use mathlib.Core.Path.{◌∙◌, ◌≡◌, sym}
use lib.ListN.{drop, length}
use native.Mathlib.Omega.{arith}
use Rattle.entries_laws.specs.Signs.{half_after, no_half}
use Rattle.entries_check.proofs.Signs.{no_sign, pair_next, signs_end}
use Rattle.entries_check.proofs.half_from.Goals as goal
use Rattle.entries_check.proofs.half_from.Goals.{Else-not-pair_at}

-- a pair stands at the index
onward : (c : Else-not-pair_at) → let w = c.args.w.now in let i = c.loop-i.i in
    (half_after no_half (drop i w) ≡ half_after no_half (drop (i + 2) w)) × (i + 2 ≤ length w)
onward c =
    pair_next c.args.w.now c.loop-i.i (omega arith) (c.loop-i.invariant.2 (omega arith))
    (sym c.pair_at.ensures ∙ c.if-not-pair_at.false)

pub past_plain-i-requires : goal.past_plain-i-requires
past_plain-i-requires c = c.requires

pub loop-i-init : goal.loop-i-init
loop-i-init c = let p = c.past_plain-i.ensures in (p.within, sym p.half, p.stops)

pub cut_at-requires : goal.cut_at-requires
cut_at-requires c = (
  omega arith,
  no_sign (c.args.w.now) c.loop-i.i (omega arith) (c.loop-i.invariant.2 (omega arith))
      (sym c.pair_at.ensures ∙ c.if-not-pair_at.true),
)

pub returns-then-not-pair_at : goal.returns-then-not-pair_at
returns-then-not-pair_at c = c.cut_at.ensures ∙ c.loop-i.invariant.1

pub overflow_add-i : goal.overflow_add-i
overflow_add-i c = omega (arith, (onward (goal.at.overflow_add-i c).Else-not-pair_at).1)

pub past_plain-i-requires-in-loop-i : goal.past_plain-i-requires-in-loop-i
past_plain-i-requires-in-loop-i c = (onward (goal.at.past_plain-i-requires-in-loop-i c).Else-not-pair_at).1

pub loop-i-smaller : goal.loop-i-smaller
loop-i-smaller c =
    omega (arith, (onward (goal.at.loop-i-smaller c).Else-not-pair_at).1, c.past_plain-i-in-loop-i.ensures.on)

pub loop-i-preserved : goal.loop-i-preserved
loop-i-preserved c =
    let p = c.past_plain-i-in-loop-i.ensures in
    (p.within, sym ((onward (goal.at.loop-i-preserved c).Else-not-pair_at).0 ∙ p.half) ∙ c.loop-i.invariant.1, p.stops)

pub returns : goal.returns
returns c = sym (signs_end (c.args.w.now) c.loop-i.i (omega arith)) ∙ c.loop-i.invariant.1

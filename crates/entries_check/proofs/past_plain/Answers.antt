use mathlib.Core.Path.{◌∙◌, ◌≡◌, ap, sym}
use lib.ListN.{drop, length}
use native.Mathlib.Omega.{arith}
use Rattle.entries_laws.specs.Signs.{half_after, no_half}
use Rattle.entries_check.proofs.Signs.{plain_next}
use Rattle.entries_check.proofs.past_plain.Goals as goal

pub returns-then-not-is_plain : goal.returns-then-not-is_plain
returns-then-not-is_plain c =
    record {
      on = omega arith;
      within = omega arith;
      half = c.loop-i.invariant;
      stops = λ l. sym c.is_plain.ensures ∙ c.if-not-is_plain.true;
    }

pub loop-i-preserved : goal.loop-i-preserved
loop-i-preserved c =
    c.loop-i.invariant
    ∙ plain_next c.args.w.now c.loop-i.i (omega arith) (sym c.is_plain.ensures ∙ c.if-not-is_plain.false)

pub returns : goal.returns
returns c =
    let w = c.args.w.now in
    let e : c.loop-i.i ≡ length w = omega arith in
    record {
      on = c.requires;
      within = omega arith;
      half = c.loop-i.invariant ∙ ap (λ i. half_after no_half (drop i w)) e;
      stops = λ l. absurd (omega arith);
    }

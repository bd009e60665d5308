-- `entries_check::number_after` meets its contract: a text with a byte does not tell a number from its half's. No loop.
use mathlib.Core.Path.{◌∙◌}
use native.Mathlib.Omega.{arith}
use Rattle.entries_laws.proofs.Halves.{after_numbered}
use Rattle.entries_check.proofs.number_after.Goals as goal

pub returns : goal.returns
returns c = c.number_of.ensures ∙ rw c.half_of.ensures at c.half_after.ensures
    ∙ after_numbered c.args.half c.args.w.now (omega (arith, c.if-w-eq0.false))

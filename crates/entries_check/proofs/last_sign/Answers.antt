-- `entries_check::last_sign` meets its contract. No loop.
use mathlib.Core.Path.{◌∙◌, sym}
use native.Mathlib.Omega.{arith}
use Rattle.entries_check.proofs.Signs.{last_short}
use Rattle.entries_check.proofs.last_sign.Goals as goal

pub returns-then-n-lt2 : goal.returns-then-n-lt2
returns-then-n-lt2 c = sym (last_short c.args.w.now (omega arith))

pub returns-then-is_pair : goal.returns-then-is_pair
returns-then-is_pair c = rw (sym c.is_pair.ensures ∙ c.if-is_pair.true)

pub returns : goal.returns
returns c = rw (sym c.is_pair.ensures ∙ c.if-is_pair.false)

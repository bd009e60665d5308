-- `entries_check::pair_at` meets its contract. No loop.
use mathlib.Core.Path.{◌∙◌, sym}
use native.Mathlib.Omega.{arith}
use Rattle.entries_check.proofs.Signs.{pair_cut, pair_here}
use Rattle.entries_check.proofs.pair_at.Goals as goal

pub overflow_sub-w : goal.overflow_sub-w
overflow_sub-w c = omega (arith, c.requires)

pub returns-then-w-i-lt2 : goal.returns-then-w-i-lt2
returns-then-w-i-lt2 c = sym (pair_cut c.args.w.now c.args.i c.requires c.if-w-i-lt2.true)

pub bounds-w-i : goal.bounds-w-i
bounds-w-i c = c.requires

pub returns : goal.returns
returns c = c.is_pair.ensures ∙ sym (pair_here c.args.w.now c.args.i c.requires (omega arith))

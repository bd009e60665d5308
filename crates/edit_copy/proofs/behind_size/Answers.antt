-- `edit_copy::behind_size` meets its contract: two runs, and a header where there is one. No loop.
use mathlib.Core.Path.{refl}
use Rattle.edit_copy.proofs.Puts.{size_with, size_without}
use Rattle.edit_copy.proofs.behind_size.Goals as goal

pub returns-in-Some : goal.returns-in-Some
returns-in-Some c = size_with c.args.b c.args.end c.in-Some.is refl

pub returns-in-None : goal.returns-in-None
returns-in-None c = size_without c.args.b c.args.end c.in-None.is refl

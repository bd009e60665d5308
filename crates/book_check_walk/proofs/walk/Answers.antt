-- `book_check_walk::walk` meets its contract: where the fast walk and the counts agree, its end is the right one; else
-- the careful walk tells. No loop, so no invariant.
use mathlib.Core.Path.{◌∙◌}
use native.Mathlib.Omega.{arith}
use Rattle.book_check_walk.proofs.walk.Goals as goal

pub returns-then-p-lows : goal.returns-then-p-lows
returns-then-p-lows c =
    let e = c.in-Some.ensures (λ i. let h = c.top.ensures i in omega (arith, c.if-top-le-LAST_PLAIN.true))
    (c.if-p-lows.true ∙ c.lows.ensures) in
    record { ends = e.0; seeks = λ off. e.1 }

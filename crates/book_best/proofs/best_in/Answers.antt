-- `book_best::best_in` meets its contract: what the loop carries is in proofs/Tops.
use native.Mathlib.Omega.{arith}
use Rattle.book_held.proofs.Places.{few}
use Rattle.book_best.proofs.Tops.{tops_best, tops_turn}
use Rattle.book_best.proofs.best_in.Goals as goal

pub better-b-requires : goal.better-b-requires
better-b-requires c = omega (arith, few c.image-image.ensures.held c.image-image.ensures.entries)

pub loop-i-preserved : goal.loop-i-preserved
loop-i-preserved c =
    let e = c.image-image.ensures in
    rw c.better-b.ensures (tops_turn e.held e.entries c.loop-i.invariant (omega arith) c.stretch_at-more.ensures)

pub returns : goal.returns
returns c =
    let e = c.image-image.ensures in
    tops_best e.held e.entries c.loop-i.invariant c.requires.1 c.loop-i-test.false

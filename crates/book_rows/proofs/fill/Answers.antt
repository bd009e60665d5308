use Rattle.book_rows.proofs.Filling.{filling_turn, short_lem}
use Rattle.book_rows.proofs.fill.Goals as goal

pub loop-next-preserved : goal.loop-next-preserved
loop-next-preserved c =
    let e = c.read_to-c.ensures in
    filling_turn c.loop-next.invariant (short_lem _ c.len-n.ensures.ok) e.0 e.2 e.3 c.put_rows.ensures
    c.next_wanted-next-in-loop-next.ensures

-- `completion_turn::turn` meets its contract: the k-th ends the run; else the parts of its range are put.
use native.Mathlib.Omega.{arith}
use Rattle.completion_turn.specs.Turns.{next}
use Rattle.completion_turn.proofs.Ranges.{put_few, put_parts}
use Rattle.completion_turn.proofs.turn.Goals as goal

pub overflow_add-r : goal.overflow_add-r
overflow_add-r c = omega (arith, c.requires.inside.high, c.requires.inside.within, c.requires.entries)

pub overflow_add-r-2 : goal.overflow_add-r-2
overflow_add-r-2 c = omega (arith, c.requires.inside.within, c.requires.entries)

pub put-left-requires : goal.put-left-requires
put-left-requires c =
    let r = c.requires in
    let slot = r.room (omega (arith, r.some, c.if-p-eq1.false)) in (
      omega (arith, r.inside.high, r.inside.within),
      omega (arith, slot),
    )

pub put-both-requires : goal.put-both-requires
put-both-requires c =
    let few = put_few c.put-left.ensures in
    let r = c.requires in
    let slot = r.room (omega (arith, r.some, c.if-p-eq1.false)) in (
      omega (arith, r.inside.within),
      omega (arith, few, slot, r.some_open, c.put-left.auto.ranges),
    )

pub returns : goal.returns
returns c =
    let both = put_parts c.args.r c.put-left.ensures c.put-both.ensures in
    next (omega (arith, c.requires.some, c.if-p-eq1.false)) (rw (both.3, both.1)) both.2 both.0

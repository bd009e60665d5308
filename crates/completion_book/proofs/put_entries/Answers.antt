use Prim.Native.Nat.{◌*◌}
use mathlib.Core.Path.{◌∙◌}
use lib.ListN.{get_or}
use native.Mathlib.Omega.{arith}
use Rattle.octets.proofs.Stores.{part_bytes}
use Rattle.entries.specs.Names.{longest_name}
use Rattle.completion_book.proofs.Putting.{put_end, put_inside, put_room, put_turn, row_inside, row_name_lem, row_short}
use Rattle.completion_book.proofs.put_entries.Goals as goal

pub overflow_add-to : goal.overflow_add-to
overflow_add-to c =
    omega (arith, row_short c.requires c.loop-i.invariant c.loop-i-test.true, c.loop-i-test.true, c.requires.few)

pub slice_bounds-put_position-end : goal.slice_bounds-put_position-end
slice_bounds-put_position-end c = row_inside c.requires c.loop-i.invariant c.loop-i-test.true

pub put_position-end-requires : goal.put_position-end-requires
put_position-end-requires c =
    let t = c.loop-i-test.true in (
      c.requires.entries,
      put_inside c.requires c.loop-i.invariant t,
      part_bytes c.args.rows.now (c.loop-i.i * longest_name) (get_or c.args.lens.now c.loop-i.i 0)
          ∙ row_name_lem c.requires c.loop-i.invariant t,
      put_room c.requires c.loop-i.invariant t,
    )

pub loop-i-preserved : goal.loop-i-preserved
loop-i-preserved c =
    put_turn c.requires c.loop-i.invariant c.loop-i-test.true c.put_position-end.ensures.0
    c.put_position-end.ensures.1

pub returns : goal.returns
returns c = put_end c.requires c.loop-i.invariant c.loop-i-test.false

use Prim.Native.Nat.{◌<◌}
use lib.ListN.{get_or, length, take}
use lib.Seq.{length-take-le}
use native.Mathlib.Omega.{arith}
use Rattle.book_table.specs.Table.{entries}
use Rattle.page_write.proofs.Paging.{page_end, page_room, page_start, page_turn}
use Rattle.page_write.proofs.Paging.{row_fits, row_long, row_low}
use Rattle.page_write.proofs.put_page.Goals as goal
use Rattle.page_write.proofs.put_page.Goals.{In-loop-ranked}

-- there is a row in each place of rank
on : (c : In-loop-ranked) → c.loop-ranked.ranked-index < length c.args.lens.now
on c = omega (arith, c.loop-ranked-test.true, length-take-le (length c.args.lens.now) c.args.order.now c.requires.2)

low : (c : In-loop-ranked)
    → get_or (take (length c.args.lens.now) c.args.order.now) c.loop-ranked.ranked-index 0 < length c.args.lens.now
low c = row_low c.requires.0 c.requires.1 c.requires.2 c.loop-ranked.invariant (on c)

pub put_heading-requires : goal.put_heading-requires
put_heading-requires c =
    omega (
      arith,
      (page_start (entries c.args.names.now c.args.lens.now c.args.scores.now) c.args.dst.now).ends,
      c.requires.3,
    )

pub loop-ranked-init : goal.loop-ranked-init
loop-ranked-init c = page_start _ _

pub overflow_mul-from : goal.overflow_mul-from
overflow_mul-from c = omega (arith, low (goal.at.overflow_mul-from c).In-loop-ranked, c.requires.0.few)

pub overflow_add-to : goal.overflow_add-to
overflow_add-to c = omega (arith, low (goal.at.overflow_add-to c).In-loop-ranked, c.requires.0.few)

pub slice_bounds-put_entry-end : goal.slice_bounds-put_entry-end
slice_bounds-put_entry-end c =
    let h = on (goal.at.slice_bounds-put_entry-end c).In-loop-ranked in
    omega (arith, row_fits c.requires.0 c.requires.1 c.requires.2 c.loop-ranked.invariant h)

pub bounds-lens-row : goal.bounds-lens-row
bounds-lens-row c = omega (arith, low (goal.at.bounds-lens-row c).In-loop-ranked)

pub offset_bounds-scores-row : goal.offset_bounds-scores-row
offset_bounds-scores-row c =
    omega (arith, low (goal.at.offset_bounds-scores-row c).In-loop-ranked, c.requires.0.few)

pub bounds-scores-row : goal.bounds-scores-row
bounds-scores-row c = omega (arith, low (goal.at.bounds-scores-row c).In-loop-ranked, c.requires.0.scored)

pub put_entry-at-requires : goal.put_entry-at-requires
put_entry-at-requires c =
    let w = (goal.at.put_entry-at-requires c).In-loop-ranked in
    let long = row_long c.requires.0 c.requires.1 c.requires.2 c.loop-ranked.invariant (on w) in (
      page_room c.requires.0 c.requires.1 c.requires.2 c.loop-ranked.invariant (on w)
          (omega (arith, c.requires.3, c.put_heading.auto.dst)),
      omega (arith, long),
      omega (arith, long, c.requires.0.short _ (low w)),
    )

pub loop-ranked-preserved : goal.loop-ranked-preserved
loop-ranked-preserved c =
    page_turn c.requires.0 c.requires.1 c.requires.2 c.loop-ranked.invariant
    (on (goal.at.loop-ranked-preserved c).In-loop-ranked) c.put_entry-at.ensures

pub returns : goal.returns
returns c =
    page_end c.requires.0 c.requires.1 c.requires.2 c.loop-ranked.invariant c.args.dst.now c.requires.3
    c.put_heading.ensures
    (omega (arith, c.loop-ranked-test.false, length-take-le (length c.args.lens.now) c.args.order.now c.requires.2))

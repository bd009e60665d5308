use Prim.Native.Nat.{◌+◌, ◌≤◌}
use mathlib.Core.Path.{◌≡◌}
use lib.ListN.{drop, get_or, length, length-take}
use native.Mathlib.Omega.{arith}
use borrow.Author.Rules.{rules}
use Rattle.octets.proofs.Stores.{part_bytes}
use Rattle.entries.specs.Names.{longest_name}
use Rattle.book_laws.proofs.Held.{held_few}
use Rattle.book_seek.specs.declared.Order.TheVariants.{Past}
use Rattle.book_skip.proofs.Skipping.{reached_end, reached_inside, reached_on, reached_past, reached_short}
use Rattle.book_skip.proofs.Skipping.{skipping_start, skipping_turn}
use Rattle.book_skip.proofs.seek_in.Goals as goal
use Rattle.book_skip.proofs.seek_in.Goals.{In-loop-index, else-kept-limit, then-kept-limit+else-eq}

-- a turn: the record that stands at the index lies inside, and its name is short
inside :
    (c : In-loop-index)
    → c.loop-index.at + 2 + get_or c.args.image.now (c.loop-index.at + 1) 0 ≤ length c.args.image.now
inside c =
    let r = c.requires in
    reached_inside r.0 r.1 c.records_at-start.ensures c.loop-index.invariant.reached c.loop-index-test.true

short :
    (c : In-loop-index)
    → get_or c.args.image.now c.loop-index.at 0 + get_or c.args.image.now (c.loop-index.at + 1) 0 ≤ longest_name
short c =
    let r = c.requires in
    reached_short r.0 r.1 c.records_at-start.ensures c.loop-index.invariant.reached c.loop-index-test.true

pub records_at-start-requires : goal.records_at-start-requires
records_at-start-requires c = held_few c.requires.0

pub limit-limit-requires : goal.limit-limit-requires
limit-limit-requires c = rw c.begin-s.ensures (omega arith)

pub loop-index-init : goal.loop-index-init
loop-index-init c =
    skipping_start c.requires.0 _ _ _ _ c.records_at-start.ensures c.begin-s.ensures c.limit-limit.ensures

pub bounds-image-at : goal.bounds-image-at
bounds-image-at c = omega (arith, inside (goal.at.bounds-image-at c).In-loop-index)

pub overflow_cast-kept : goal.overflow_cast-kept
overflow_cast-kept c = omega (arith, short (goal.at.overflow_cast-kept c).In-loop-index)

pub overflow_add-own : goal.overflow_add-own
overflow_add-own c = omega (arith, inside (goal.at.overflow_add-own c).In-loop-index)

pub bounds-image-at-in-loop-index : goal.bounds-image-at-in-loop-index
bounds-image-at-in-loop-index c = omega (arith, inside (goal.at.bounds-image-at-in-loop-index c).In-loop-index)

pub overflow_cast-own : goal.overflow_cast-own
overflow_cast-own c = omega (arith, short (goal.at.overflow_cast-own c).In-loop-index)

pub overflow_add-from : goal.overflow_add-from
overflow_add-from c = omega (arith, inside (goal.at.overflow_add-from c).In-loop-index)

pub overflow_add-end : goal.overflow_add-end
overflow_add-end c = omega (arith, inside (goal.at.overflow_add-end c).In-loop-index)

pub slice_bounds-pass-end : goal.slice_bounds-pass-end
slice_bounds-pass-end c = omega (arith, inside (goal.at.slice_bounds-pass-end c).In-loop-index)

pub pass-s-requires : goal.pass-s-requires
pass-s-requires c =
    let p = (goal.at.pass-s-requires c).In-loop-index in
    let name = short p in
    let b = c.args.image.now in
    let own = get_or b (c.loop-index.at + 1) 0 in (
      c.loop-index.invariant.bounded,
      omega (arith, c.loop-index-test.true, held_few c.requires.0),
      rw (part_bytes b (c.loop-index.at + 2) own)
          (omega (arith, length-take own (drop (c.loop-index.at + 2) b), name)),
      omega (arith, name),
    )

pub returns-then-eq : goal.returns-then-eq
returns-then-eq c =
    let r = c.requires in
    let from = c.records_at-start.ensures in
    let past : c.pass-s.result.order ≡ Past = search rules in
    let test = c.loop-index-test.true in
    let own = get_or c.args.image.now (c.loop-index.at + 1) 0 in
    let on = rw (part_bytes c.args.image.now (c.loop-index.at + 2) own) at c.pass-s.ensures.0 in
    let g = reached_on r.0 r.1 from c.loop-index.invariant.reached test c.pass-s.result on in
    reached_past r.0 from g past (omega (arith, test))

pub limit-limit-requires-then-kept-limit : goal.limit-limit-requires-then-kept-limit
limit-limit-requires-then-kept-limit c = c.pass-s.ensures.1

pub loop-index-preserved : goal.loop-index-preserved
loop-index-preserved c =
    let r = c.requires in
    let from = c.records_at-start.ensures in
    let v = c.loop-index.invariant in
    let test = c.loop-index-test.true in
    let own = get_or c.args.image.now (c.loop-index.at + 1) 0 in
    elim c.if-kept-limit.branch [
      | then-kept-limit+else-eq w ↦
          let on = rw (part_bytes c.args.image.now (c.loop-index.at + 2) own) at w.pass-s.ensures.0 in
          rw (w.s-is, w.limit-is)
          (skipping_turn r.0 r.1 from v.reached test w.pass-s.result _ on w.pass-s.ensures.1
          w.limit-limit-then-kept-limit.ensures)
      | else-kept-limit w ↦
          rw (w.s-is, w.limit-is)
          (skipping_turn r.0 r.1 from v.reached test c.loop-index.s _ (v.quiet _ _ _ _ _ w.if-kept-limit.false)
          v.bounded v.quiet)
    ]

pub returns : goal.returns
returns c =
    let v = c.loop-index.invariant in
    let e : c.loop-index.index ≡ c.args.n = omega (arith, v.within, c.loop-index-test.false) in
    rw c.settle.ensures
    (rw e at (reached_end c.requires.0 c.records_at-start.ensures v.reached c.loop-index-test.false))

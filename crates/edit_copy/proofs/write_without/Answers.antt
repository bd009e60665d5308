-- `edit_copy::write_without` meets its contract: planned first, refused where the image is longer than the destination,
-- then stored run by run and finished (proofs/Edits). No loop.
use Prim.Native.Nat.{◌+◌, ◌<◌, ◌≤◌}
use native.Mathlib.Omega.{arith}
use Rattle.book_laws.proofs.Held.{held_few}
use Rattle.edit_copy.proofs.Edits.{plan_room, without_most, without_stored, without_total}
use Rattle.edit_copy.proofs.Plans.{at-inside, image_inside, scores-inside}
use Rattle.edit_copy.proofs.Results.{front_low, held-inside, without-count}
use Rattle.book_write.proofs.Reports.{whole_refused, whole_written}
use Rattle.edit_copy.proofs.write_without.Goals as goal

pub plan_without-p-requires : goal.plan_without-p-requires
plan_without-p-requires c = c.requires

pub returns-then-dst-p : goal.returns-then-dst-p
returns-then-dst-p c =
    whole_refused _ _ _ (without_total c.requires c.plan_without-p.ensures) c.if-dst-p.true

pub overflow_add-s : goal.overflow_add-s
overflow_add-s c = omega (arith, held-inside c.requires.sought c.requires, held_few c.requires.sought.held)

pub put_scores-requires : goal.put_scores-requires
put_scores-requires c =
    let a = c.requires.sought in
    let inside : c.args.s.place < c.args.n = held-inside a c.requires in
    record {
      front = scores-inside a c.args.s.place (omega (arith, inside));
      back = scores-inside a _ (omega (arith, inside));
      few = omega arith;
    }

pub slice_bounds-copy-count : goal.slice_bounds-copy-count
slice_bounds-copy-count c =
    omega (arith, c.plan_without-p.ensures.old, front_low c.requires.sought)

pub slice_bounds-copy-start : goal.slice_bounds-copy-start
slice_bounds-copy-start c =
    omega (arith, c.plan_without-p.ensures.old, front_low c.requires.sought)

pub slice_bounds-copy-end : goal.slice_bounds-copy-end
slice_bounds-copy-end c =
    let a = c.requires.sought in
    omega (arith, at-inside a, image_inside a)

pub put_behind-requires : goal.put_behind-requires
put_behind-requires c =
    let most : c.plan_without-p.result.total ≤ 55559 = without_most c.requires c.plan_without-p.ensures in
    plan_room c.plan_without-p.ensures (omega (arith, most))

pub overflow_sub-n : goal.overflow_sub-n
overflow_sub-n c =
    let inside : c.args.s.place < c.args.n = held-inside c.requires.sought c.requires in
    omega (arith, inside)

pub finish-requires : goal.finish-requires
finish-requires c =
    let most : c.plan_without-p.result.total ≤ 55559 = without_most c.requires c.plan_without-p.ensures in
    (omega (arith, held_few c.requires.sought.held), omega (arith, most))

pub overflow_sub-result : goal.overflow_sub-result
overflow_sub-result c =
    let inside : c.args.s.place < c.args.n = held-inside c.requires.sought c.requires in
    omega (arith, inside)

pub returns : goal.returns
returns c =
    let h = c.plan_without-p.ensures in
    whole_written _ _ _ _ (without-count c.requires.sought c.requires) (without_total c.requires h) c.if-dst-p.false
    (without_stored c.requires h c.args.dst.now c.if-dst-p.false c.put_scores.ensures c.copy.ensures
    c.put_behind.ensures c.finish.ensures)

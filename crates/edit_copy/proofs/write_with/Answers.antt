-- `edit_copy::write_with` meets its contract: planned first, refused where the image is longer than the destination,
-- then stored run by run and finished (proofs/Edits). No loop.
use Prim.Native.Nat.{◌<◌, ◌≤◌}
use mathlib.Core.Path.{◌≡◌, refl, sym}
use mathlib.Core.List.{[], ◌∷◌}
use lib.Seq.{length-take-le, sets}
use native.Mathlib.Omega.{arith}
use borrow.Author.Rules.{rules}
use Rattle.edit_copy.proofs.Edits.{plan_room, record_room, with_most, with_stored, with_total}
use Rattle.edit_copy.proofs.Plans.{at-inside, image_inside, left_within, scores-inside}
use Rattle.edit_copy.proofs.Puts.{score_put}
use Rattle.edit_copy.proofs.Results.{front_low, place_within, with-count}
use Rattle.book_write.proofs.Reports.{whole_refused, whole_written}
use Rattle.edit_copy.proofs.write_with.Goals as goal
use Rattle.edit_copy.proofs.write_with.Goals.{After-put_scores}
use Rattle.edit_copy.specs.Copies.{scores_with}

-- the scores are stored
scores_are :
    (c : After-put_scores) → let a = c.args in
    c.put_scores.new.dst ≡ sets a.dst.now 7 (scores_with a.book.now a.n a.s.place a.score)
scores_are c =
    let a = c.args in
    score_put (0 ∷ 0 ∷ 0 ∷ 0 ∷ []) c.write_u32.new.dst a.book.now a.dst.now a.n a.s.place a.score refl
    c.write_u32.ensures c.put_scores.ensures

pub plan_with-p-requires : goal.plan_with-p-requires
plan_with-p-requires c = c.requires

pub returns-then-dst-p : goal.returns-then-dst-p
returns-then-dst-p c =
    let score : c.args.score < 4294967296 = search rules in
    whole_refused _ _ _ (with_total c.requires c.plan_with-p.ensures c.args.score score) c.if-dst-p.true

pub put_scores-requires : goal.put_scores-requires
put_scores-requires c =
    let a = c.requires.sought in
    let r = scores-inside a c.args.s.place (place_within a) in
    record { front = r; back = r; few = omega (arith, c.write_u32.auto.dst) }

pub slice_bounds-copy-count : goal.slice_bounds-copy-count
slice_bounds-copy-count c = omega (arith, c.plan_with-p.ensures.old, front_low c.requires.sought)

pub slice_bounds-copy-start : goal.slice_bounds-copy-start
slice_bounds-copy-start c = omega (arith, c.plan_with-p.ensures.old, front_low c.requires.sought)

pub slice_bounds-copy-end : goal.slice_bounds-copy-end
slice_bounds-copy-end c =
    let a = c.requires.sought in
    omega (arith, at-inside a, image_inside a)

pub slice_bounds-put_record-end : goal.slice_bounds-put_record-end
slice_bounds-put_record-end c =
    sym (length-take-le c.args.s.below c.args.name.now (left_within c.requires.sought))

pub put_record-requires : goal.put_record-requires
put_record-requires c =
    let score : c.args.score < 4294967296 = search rules in
    record_room c.requires c.plan_with-p.ensures c.args.score score c.args.dst.now c.if-dst-p.false
    (scores_are (goal.at.put_record-requires c).After-put_scores) c.copy.ensures

pub put_behind-requires : goal.put_behind-requires
put_behind-requires c =
    let score : c.args.score < 4294967296 = search rules in
    let most : c.plan_with-p.result.total ≤ 55559 = with_most c.requires c.plan_with-p.ensures c.args.score score in
    plan_room c.plan_with-p.ensures (omega (arith, most))

pub overflow_add-n : goal.overflow_add-n
overflow_add-n c = omega (arith, c.requires.room)

pub finish-requires : goal.finish-requires
finish-requires c =
    let score : c.args.score < 4294967296 = search rules in
    let most : c.plan_with-p.result.total ≤ 55559 = with_most c.requires c.plan_with-p.ensures c.args.score score in
    (omega (arith, c.requires.room), omega (arith, most))

pub overflow_add-result : goal.overflow_add-result
overflow_add-result c = omega (arith, c.requires.room)

pub returns : goal.returns
returns c =
    let score : c.args.score < 4294967296 = search rules in
    let h = c.plan_with-p.ensures in
    whole_written _ _ _ _ (with-count c.requires.sought c.requires c.args.score)
    (with_total c.requires h c.args.score score) c.if-dst-p.false
    (with_stored c.requires h c.args.score score c.args.dst.now c.if-dst-p.false
    (scores_are (goal.at.returns c).After-put_scores)
    c.copy.ensures c.put_record.ensures c.put_behind.ensures c.finish.ensures)

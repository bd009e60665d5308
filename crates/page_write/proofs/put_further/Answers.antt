use Rattle.std.proofs.Common.{◌<◌, ◌≡◌, ◌++◌, ◌∙◌, ap, arith, length, min}
use Rattle.std.specs.Slice.Iter.{chunks_rest, chunks_size}
use Rattle.page.specs.Page.{name_columns}
use Rattle.page_write.proofs.Writing.{go_end, go_on, go_room, go_start, part_fits}
use Rattle.page_write.proofs.put_further.Goals as goal
use Rattle.page_write.proofs.put_further.Goals.{In-Some}

-- the part that comes next, of what is left
next_part : (c : In-Some) → let left = chunks_rest c.loop-part.part-iterator in
    (0 < length left) × (left ≡ c.in-Some.part.now ++ chunks_rest c.next.new.self)
    × (length c.in-Some.part.now ≡ min name_columns (length left))
next_part c = let f = c.in-Some.ensures.steps.1 in (f.2, f.0, rw c.loop-part.invariant.1 at f.1)

pub loop-part-init : goal.loop-part-init
loop-part-init c =
    let i = c.into_iter-part-iterator.ensures.into_iter_gives in (
      go_start _ _ (ap chunks_rest i ∙ c.chunks-part-items.ensures.rest),
      ap chunks_size i ∙ c.chunks-part-items.ensures.size,
    )

pub put_line-requires : goal.put_line-requires
put_line-requires c =
    let n = next_part (goal.at.put_line-requires c).In-Some in
    (go_room c.loop-part.invariant.0 _ _ n.0 n.1 n.2 c.requires, part_fits c.loop-part.invariant.0 _ _ n.0 n.1 n.2)

pub overflow_add-end : goal.overflow_add-end
overflow_add-end c =
    let n = next_part (goal.at.overflow_add-end c).In-Some in
    omega (arith, go_room c.loop-part.invariant.0 _ _ n.0 n.1 n.2 c.requires)

pub loop-part-preserved : goal.loop-part-preserved
loop-part-preserved c =
    let n = next_part (goal.at.loop-part-preserved c).In-Some in (
      go_on c.loop-part.invariant.0 _ _ n.0 n.1 n.2 c.put_line.auto.dst c.put_line.ensures,
      c.in-Some.ensures.steps.0 ∙ c.loop-part.invariant.1,
    )

pub shape_of-dst : goal.shape_of-dst
shape_of-dst c = c.loop-part.invariant.0.long

pub returns : goal.returns
returns c = go_end c.loop-part.invariant.0 c.requires c.in-None.ensures.steps.1.0

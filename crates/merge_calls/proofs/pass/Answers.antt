use Prim.Native.Nat.{◌≤◌}
use mathlib.Core.Path.{◌∙◌, ◌≡◌, sym}
use lib.ListN.{length, take}
use lib.Seq.{length-take-le}
use native.Mathlib.Omega.{arith}
use borrow.Author.Rules.{rules}
use Rattle.entries.specs.Names.{longest_name}
use Rattle.merge_calls.proofs.Turns.{left_end, left_fits, left_none_next, left_start, left_turn}
use Rattle.merge_calls.proofs.pass.Goals as goal
use Rattle.merge_calls.proofs.pass.Goals.{In-Some}

-- the name that came next, in the array that it was copied to
name_long : (c : In-Some) → length c.next_entry.new.name ≡ longest_name
name_long c = c.next_entry.auto.name ∙ c.loop-index.invariant.1

name_fits : (c : In-Some) → c.in-Some.t.len ≤ length c.next_entry.new.name
name_fits c = omega (arith, name_long c, c.in-Some.ensures.small)

name_size : (c : In-Some) → length (take c.in-Some.t.len c.next_entry.new.name) ≡ c.in-Some.t.len
name_size c = length-take-le c.in-Some.t.len c.next_entry.new.name (name_fits c)

pub first_name-x-requires : goal.first_name-x-requires
first_name-x-requires c = search rules

pub first_name-y-requires : goal.first_name-y-requires
first_name-y-requires c = search rules

pub loop-index-init : goal.loop-index-init
loop-index-init c = (
  left_start c.requires _ c.first_name-x.ensures c.first_name-y.ensures,
  search rules,
  search rules,
)

pub slice_bounds-next_entry-end : goal.slice_bounds-next_entry-end
slice_bounds-next_entry-end c = sym c.loop-index.invariant.0.of_first.long

pub slice_bounds-next_entry-end-in-loop-index : goal.slice_bounds-next_entry-end-in-loop-index
slice_bounds-next_entry-end-in-loop-index c = sym c.loop-index.invariant.0.of_second.long

pub slice_bounds-next_entry-end-in-loop-index-2 : goal.slice_bounds-next_entry-end-in-loop-index-2
slice_bounds-next_entry-end-in-loop-index-2 c = sym c.loop-index.invariant.1

pub next_entry-requires : goal.next_entry-requires
next_entry-requires c = let v = c.loop-index.invariant in (v.0.of_first, v.0.of_second, v.1)

pub slice_bounds-name-end : goal.slice_bounds-name-end
slice_bounds-name-end c = name_fits (goal.at.slice_bounds-name-end c).In-Some

pub slice_bounds-w-end : goal.slice_bounds-w-end
slice_bounds-w-end c = sym (name_size (goal.at.slice_bounds-w-end c).In-Some)

pub slice_bounds-pass_next-end : goal.slice_bounds-pass_next-end
slice_bounds-pass_next-end c = sym c.loop-index.invariant.2

pub pass_next-to_at-requires : goal.pass_next-to_at-requires
pass_next-to_at-requires c =
    let v = c.loop-index.invariant in
    (left_fits v.0 c.in-Some.ensures c.loop-index-test.true c.today-l.ensures, v.2)

pub loop-index-preserved : goal.loop-index-preserved
loop-index-preserved c =
    let here = (goal.at.loop-index-preserved c).In-Some in
    let v = c.loop-index.invariant in (
      left_turn v.0 c.in-Some.ensures c.loop-index-test.true c.today-l.ensures
          (rw (name_size here) at c.pass_next-to_at.ensures),
      name_long here,
      c.pass_next-to_at.auto.prev ∙ v.2,
    )

pub overflow_add-left : goal.overflow_add-left
overflow_add-left c =
    let v = c.loop-index.invariant.0 in omega (arith, v.of_first.small, v.of_second.small)

pub shape_of-dst : goal.shape_of-dst
shape_of-dst c = c.loop-index.invariant.0.passing.same_length

pub shape_of-dst-in_default : goal.shape_of-dst-in_default
shape_of-dst-in_default c = c.loop-index.invariant.0.passing.same_length

pub returns-in_default : goal.returns-in_default
returns-in_default c = left_none_next c.loop-index.invariant.0 c.in_default.ensures.none

pub returns : goal.returns
returns c = left_end c.loop-index.invariant.0 c.loop-index-test.false

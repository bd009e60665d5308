-- `convert_write::pass_copy` meets its contract: the record's bytes are those of its entry in the other layout too
-- (proofs/Passing). No loop.
use Prim.Native.Nat.{◌+◌, ◌-◌, ◌≤◌}
use mathlib.Core.Path.{◌≡◌, ap}
use lib.ListN.{drop, length, take}
use native.Mathlib.Omega.{arith}
use Rattle.entries.specs.Names.{longest_name}
use Rattle.book_laws.proofs.Held.{held_few}
use Rattle.convert_write.proofs.Passing.{given_passed, read_ahead, ready_inside}
use Rattle.convert_write.proofs.pass_copy.Goals as goal
use Rattle.convert_write.proofs.pass_copy.Goals.{After-read_name-p}

-- the record that was read: where it ends, and its name
record_inside :
    (c : After-read_name-p)
    → c.args.src.at + (c.read_name-p.result.start + c.read_name-p.result.own) ≤ length c.args.book.now
record_inside c = (read_ahead c.requires.0 c.read_name-p.ensures).inside

name_small : (c : After-read_name-p) → c.read_name-p.result.kept + c.read_name-p.result.own ≤ longest_name
name_small c = (read_ahead c.requires.0 c.read_name-p.ensures).small

pub read_name-p-requires : goal.read_name-p-requires
read_name-p-requires c = ready_inside c.requires.0

pub overflow_add-end : goal.overflow_add-end
overflow_add-end c =
    let inside = record_inside (goal.at.overflow_add-end c).After-read_name-p in
    omega (arith, inside)

pub overflow_add-end-2 : goal.overflow_add-end-2
overflow_add-end-2 c =
    let inside = record_inside (goal.at.overflow_add-end-2 c).After-read_name-p in
    omega (arith, inside)

pub score_at-score-requires : goal.score_at-score-requires
score_at-score-requires c = omega (arith, c.requires.0.low, held_few c.requires.0.held)

pub slice_bounds-pass_given-start : goal.slice_bounds-pass_given-start
slice_bounds-pass_given-start c =
    let inside = record_inside (goal.at.slice_bounds-pass_given-start c).After-read_name-p in
    omega (arith, inside)

pub slice_bounds-pass_given-end : goal.slice_bounds-pass_given-end
slice_bounds-pass_given-end c =
    let inside = record_inside (goal.at.slice_bounds-pass_given-end c).After-read_name-p in
    omega (arith, inside)

pub pass_given-at-requires : goal.pass_given-at-requires
pass_given-at-requires c =
    let few = held_few c.requires.0.held in
    record { few = few; low = omega (arith, few, c.requires.0.low); near = omega (arith, c.requires.0.fits.near) }

pub overflow_add-result : goal.overflow_add-result
overflow_add-result c =
    let small = name_small (goal.at.overflow_add-result c).After-read_name-p in
    omega (arith, small)

pub returns : goal.returns
returns c =
    let p = c.read_name-p.result in
    let n : c.args.src.at + (p.start + p.own) - c.args.src.at ≡ p.start + p.own = omega arith in
    given_passed c.requires.0 c.read_name-p.ensures c.requires.1
    (ap (λ m. take m (drop c.args.src.at c.args.book.now)) n)
    c.score_at-score.ensures c.pass_given-at.ensures.0 c.pass_given-at.ensures.1

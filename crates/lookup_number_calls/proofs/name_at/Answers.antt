-- `lookup_number_calls::name_at` meets its contract: the checks in the table's order, then the entry at the position.
-- No loop, so no invariant.
use Rattle.std.proofs.lemmas.Result.{err_from_is_err_and}
use mathlib.Core.Path.{◌∙◌, ◌≡◌, ap, sym}
use lib.ListN.{length}
use lib.Seq.{length-take-le}
use native.Mathlib.Omega.{arith}
use borrow.Author.Rules.{rules}
use borrow.Author.Tests.{le-leb}
use Rattle.entries.specs.Names.{longest_name}
use Rattle.answer.specs.Answers.{writing, writing_image}
use Rattle.lookup.specs.Lookups.{name_at}
use Rattle.book.proofs.Checks.{read_not_old}
use Rattle.lookup_number_calls.proofs.Entry.{at_position}
use Rattle.lookup_number_calls.proofs.Refused.{position-refused}
use Rattle.lookup_number_calls.proofs.name_at.Goals as goal
use Rattle.lookup_number_calls.proofs.name_at.Goals.{After-name_at-cursor}

pub returns-in_err-c : goal.returns-in_err-c
returns-in_err-c c =
    let p = err_from_is_err_and c.from_residual.result c.from_residual.ensures.1 in
    rw (p.1, p.2) (position-refused _ c.in_err-c.ensures _ _)

pub returns-then-n-position : goal.returns-then-n-position
unfolding name_at writing_image writing
returns-then-n-position c =
    let k = c.in_ok-c.ensures in
    let e = c.len-n.ensures.count ∙ ap length (c.book-held.ensures ∙ k.entries) in
    let t = le-leb _ _ (rw e at c.if-n-position.true) in
    let o = read_not_old _ k.is_it in
    record { answer = rw (o, k.is_it, t); left = rw (o, k.is_it, t) }

pub name_at-cursor-requires : goal.name_at-cursor-requires
name_at-cursor-requires c =
    omega (arith, c.len-n.ensures.count, c.if-n-position.false)

-- the array that the name is read into
long : (c : After-name_at-cursor) → length c.name_at-cursor.result.name ≡ longest_name
long c = search rules

pub slice_bounds-name-end : goal.slice_bounds-name-end
slice_bounds-name-end c =
    let l = long (goal.at.slice_bounds-name-end c).After-name_at-cursor in
    omega (arith, l, c.name_at-cursor.ensures.1)

pub slice_bounds-write_entry-end : goal.slice_bounds-write_entry-end
slice_bounds-write_entry-end c =
    let l = long (goal.at.slice_bounds-write_entry-end c).After-name_at-cursor in
    sym (length-take-le c.name_at-cursor.result.len c.name_at-cursor.result.name
    (omega (arith, l, c.name_at-cursor.ensures.1)))

pub score-requires : goal.score-requires
score-requires c = omega (arith, c.len-n.ensures.count, c.if-n-position.false)

pub write_entry-requires : goal.write_entry-requires
write_entry-requires c =
    let l = long (goal.at.write_entry-requires c).After-name_at-cursor in
    omega (
      arith,
      l,
      c.name_at-cursor.ensures.1,
      length-take-le c.name_at-cursor.result.len c.name_at-cursor.result.name
          (omega (arith, l, c.name_at-cursor.ensures.1)),
    )

pub shape_of-dst : goal.shape_of-dst
shape_of-dst c = c.write_entry.auto.dst

pub returns : goal.returns
returns c =
    let k = c.in_ok-c.ensures in
    let e = c.book-held.ensures ∙ k.entries in
    at_position _ _ _ _ _ k.is_it e (omega (arith, c.len-n.ensures.count, c.if-n-position.false))
    c.name_at-cursor.ensures.0 c.score.ensures c.write_entry.ensures

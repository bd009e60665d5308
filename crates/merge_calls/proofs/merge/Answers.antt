-- `merge_calls::merge` meets its contract: both books checked, the entries chosen measured, then written
-- (proofs/Answering). No loop.
use Rattle.std.proofs.lemmas.Result.{err_from_is_err_and}
use mathlib.Core.Path.{◌∙◌, sym}
use native.Mathlib.Omega.{arith}
use Rattle.merge_calls.specs.Merging.{Both}
use Rattle.merge_calls.proofs.Answering.{entries_ok, first_damaged, first_old, merged, second_damaged, second_old, too_many}
use Rattle.merge_calls.proofs.Whole.{counted_all, counted_few, counted_size}
use Rattle.merge_calls.proofs.merge.Goals as goal
use Rattle.merge_calls.proofs.merge.Goals.{After-book-theirs, then-is_old-via-then-is_old}
use Rattle.merge_calls.proofs.merge.Goals.{then-is_old-via-else-is_old+then-is_old-2}

pub returns-then-is_old : goal.returns-then-is_old
returns-then-is_old c =
    elim c.then-is_old.branch [
      | then-is_old-via-then-is_old w ↦ first_old _ _ _ (sym c.is_old.ensures ∙ w.if-is_old.true)
      | then-is_old-via-else-is_old+then-is_old-2 w ↦
          second_old _ _ _ (sym c.is_old.ensures ∙ w.if-is_old.false)
          (sym w.is_old-else-is_old.ensures ∙ w.if-is_old-2.true)
    ]

pub returns-in_err-one : goal.returns-in_err-one
returns-in_err-one c =
    let p = err_from_is_err_and c.from_residual.result c.from_residual.ensures.1 in
    rw (p.1, p.2)
    (first_damaged _ _ (sym c.is_old.ensures ∙ c.if-is_old.false)
    (sym c.is_old-else-is_old.ensures ∙ c.if-is_old-2.false) _ c.in_err-one.ensures)

pub returns-in_err-other : goal.returns-in_err-other
returns-in_err-other c =
    let p = err_from_is_err_and c.from_residual-in_err-other.result c.from_residual-in_err-other.ensures.1 in
    rw (p.1, p.2)
    (second_damaged _ _ (sym c.is_old.ensures ∙ c.if-is_old.false)
    (sym c.is_old-else-is_old.ensures ∙ c.if-is_old-2.false) _ c.in_ok-one.ensures.is_it c.in_err-other.ensures)

-- the entries of two books that were checked
both : (c : After-book-theirs) → Both c.book-ours.result c.book-theirs.result
both c =
    let k = c.in_ok-one.ensures in
    let l = c.in_ok-other.ensures in
    record {
      one = entries_ok _ k.is_it (c.book-ours.ensures ∙ k.entries);
      other = entries_ok _ l.is_it (c.book-theirs.ensures ∙ l.entries);
    }

pub measure-r-requires : goal.measure-r-requires
measure-r-requires c = both (goal.at.measure-r-requires c).After-book-theirs

pub returns-then-r : goal.returns-then-r
returns-then-r c =
    let k = c.in_ok-one.ensures in
    let l = c.in_ok-other.ensures in
    let ours = c.book-ours.ensures ∙ k.entries in
    let theirs = c.book-theirs.ensures ∙ l.entries in
    too_many _ _ k.is_it l.is_it ours theirs c.measure-r.ensures _ c.if-r.true

pub write_chosen-requires : goal.write_chosen-requires
write_chosen-requires c =
    let b = both (goal.at.write_chosen-requires c).After-book-theirs in
    let all = counted_all c.measure-r.ensures c.if-r.false in (
      b,
      omega (arith, all, counted_few c.measure-r.ensures c.if-r.false),
      all,
      counted_size c.measure-r.ensures c.if-r.false,
    )

pub returns : goal.returns
returns c =
    let k = c.in_ok-one.ensures in
    let l = c.in_ok-other.ensures in
    let ours = c.book-ours.ensures ∙ k.entries in
    let theirs = c.book-theirs.ensures ∙ l.entries in
    merged _ _ k.is_it l.is_it ours theirs c.measure-r.ensures _ c.if-r.false c.write_chosen.ensures

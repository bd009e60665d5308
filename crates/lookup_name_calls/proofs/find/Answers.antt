-- `lookup_name_calls::find` meets its contract: the checks in the table's order, then the finding.
-- No loop, so no invariant.
use mathlib.Core.Path.{◌∙◌, ap, sym}
use Rattle.std.proofs.lemmas.Result.{err_from_is_err_and}
use Rattle.answer.specs.Answers.{given}
use Rattle.lookup.specs.Lookups.{find}
use Rattle.book_check.proofs.Refusing.{passed}
use Rattle.lookup_find.proofs.Finding.{found_is, place_low}
use Rattle.lookup_name_calls.proofs.Refused.{find-refused}
use Rattle.lookup_name_calls.proofs.find.Goals as goal

pub returns-in_err-c : goal.returns-in_err-c
returns-in_err-c c =
    let p = err_from_is_err_and c.from_residual.result c.from_residual.ensures.1 in
    rw (p.1, p.2) (find-refused _ _ c.in_err-c.ensures)

pub returns-then-not-is_name : goal.returns-then-not-is_name
unfolding find
returns-then-not-is_name c = rw (passed c.in_ok-c.ensures _ _, sym c.is_name.ensures ∙ c.if-not-is_name.true)

pub find_in-requires : goal.find_in-requires
find_in-requires c = let k = c.in_ok-c.ensures in place_low _ _ k.is_it k.located

pub returns : goal.returns
unfolding find
returns c =
    let k = c.in_ok-c.ensures in
    rw (passed k _ _, sym c.is_name.ensures ∙ c.if-not-is_name.false)
    (ap given (c.find_in.ensures ∙ found_is _ _ k.is_it k.located))

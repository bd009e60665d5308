-- `lookup_name_calls::prefix_range` meets its contract: the matches lie between the prefix's two places.
-- No loop, so no invariant.
use mathlib.Core.Path.{◌∙◌, sym}
use Rattle.std.proofs.lemmas.Result.{err_from_is_err_and}
use Rattle.lookup.specs.Lookups.{prefix_range}
use Rattle.book_check.proofs.Refusing.{passed}
use Rattle.lookup_name_calls.proofs.Ranges.{span_none, span_some}
use Rattle.lookup_name_calls.proofs.Refused.{range_refused}
use Rattle.lookup_name_calls.proofs.prefix_range.Goals as goal

pub returns-in_err-c : goal.returns-in_err-c
returns-in_err-c c =
    let p = err_from_is_err_and c.from_residual.result c.from_residual.ensures.1 in
    rw (p.1, p.2) (range_refused _ _ c.in_err-c.ensures)

pub returns-then-not-is_prefix : goal.returns-then-not-is_prefix
unfolding prefix_range
returns-then-not-is_prefix c = rw (passed c.in_ok-c.ensures _ _, sym c.is_prefix.ensures ∙ c.if-not-is_prefix.true)

pub returns-then-end-first : goal.returns-then-end-first
returns-then-end-first c =
    let k = c.in_ok-c.ensures in
    span_none _ _ k.is_it (sym c.is_prefix.ensures ∙ c.if-not-is_prefix.false) k.located c.if-end-first.true

pub returns : goal.returns
returns c =
    let k = c.in_ok-c.ensures in
    span_some _ _ k.is_it (sym c.is_prefix.ensures ∙ c.if-not-is_prefix.false) k.located c.if-end-first.false

-- `lookup_number_calls::check` meets its contract: the check's refusal, or its entries and the length that the image
-- says.
-- No loop, so no invariant.
use Rattle.std.proofs.lemmas.Result.{err_from_is_err_and}
use mathlib.Core.Path.{◌∙◌, ap}
use lib.ListN.{length}
use Rattle.book.proofs.Checks.{read_not_old}
use Rattle.lookup.specs.Lookups.{check_book}
use Rattle.lookup_number_calls.proofs.Refused.{check_refused}
use Rattle.lookup_number_calls.proofs.check.Goals as goal

pub returns-in_err-checked : goal.returns-in_err-checked
returns-in_err-checked c =
    let p = err_from_is_err_and c.from_residual.result c.from_residual.ensures.1 in
    rw (p.1, p.2) (check_refused _ c.in_err-checked.ensures)

pub image_length-bytes-requires : goal.image_length-bytes-requires
image_length-bytes-requires c = c.in_ok-checked.ensures.is_it

pub returns : goal.returns
unfolding check_book
returns c =
    let k = c.in_ok-checked.ensures in
    let n = c.len-entries.ensures.count ∙ ap length (c.book.ensures ∙ k.entries) in
    rw (read_not_old _ k.is_it, k.is_it, n, c.image_length-bytes.ensures)

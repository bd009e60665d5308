-- `lookup_head_calls::head_start` meets its contract: two bytes behind where the records begin. No loop.
use mathlib.Core.Path.{◌≡◌}
use native.Mathlib.Omega.{arith}
use Rattle.book.specs.Book.{records_at, today}
use Rattle.lookup_head_calls.proofs.Place.{records_near}
use Rattle.lookup_head_calls.proofs.head_start.Goals as goal

pub records_at-requires : goal.records_at-requires
records_at-requires c = c.requires

pub overflow_add-result : goal.overflow_add-result
overflow_add-result c =
    let from : c.records_at.result ≡ records_at today c.args.n = rw c.today.ensures at c.records_at.ensures in
    omega (arith, from, records_near c.args.n c.requires)

pub returns : goal.returns
returns c =
    let from : c.records_at.result ≡ records_at today c.args.n = rw c.today.ensures at c.records_at.ensures in
    rw from

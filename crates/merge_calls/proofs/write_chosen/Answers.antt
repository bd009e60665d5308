-- `merge_calls::write_chosen` meets its contract: refused where the image is longer than the destination, else all
-- entries are put, and what is put is finished to the image (proofs/Whole).
-- No loop.
use Prim.Native.Nat.{◌+◌, ◌≤◌}
use mathlib.Core.Path.{◌∙◌, ◌≡◌}
use lib.ListN.{length}
use native.Mathlib.Omega.{arith}
use Rattle.book.specs.Book.{book_image, records_at, today}
use Rattle.book_write.proofs.Reports.{whole_refused, whole_written}
use Rattle.merge.specs.Joined.{joined}
use Rattle.merge_calls.proofs.Whole.{whole_image, whole_length, whole_small, write_room}
use Rattle.merge_calls.proofs.write_chosen.Goals as goal
use Rattle.merge_calls.proofs.write_chosen.Goals.{After-records_at-start}

-- where the records begin, and where the image ends
starts_at : (c : After-records_at-start) → c.records_at-start.result ≡ records_at today c.args.count
starts_at c = rw c.today-l.ensures at c.records_at-start.ensures

total_small : (c : After-records_at-start) → c.records_at-start.result + c.args.size ≤ 55559
total_small c = let q = c.requires in whole_small q.0 q.1 q.2 q.3 (starts_at c)

total_is :
    (c : After-records_at-start) → let a = c.args in
    c.records_at-start.result + a.size ≡ length (book_image (joined a.first.now a.second.now))
total_is c = let q = c.requires in whole_length q.0 q.1 q.2 q.3 (starts_at c)

pub records_at-start-requires : goal.records_at-start-requires
records_at-start-requires c = c.requires.1

pub overflow_add-total : goal.overflow_add-total
overflow_add-total c =
    let small = total_small (goal.at.overflow_add-total c).After-records_at-start in
    omega (arith, small)

pub returns-then-dst-total : goal.returns-then-dst-total
returns-then-dst-total c =
    let total = total_is (goal.at.returns-then-dst-total c).After-records_at-start in
    let a = c.args in
    whole_refused today (joined a.first.now a.second.now) a.dst.now total c.if-dst-total.true

pub pass-requires : goal.pass-requires
pass-requires c =
    let starts = starts_at (goal.at.pass-requires c).After-records_at-start in
    let q = c.requires in
    write_room q.0 q.1 q.2 q.3 starts (omega (arith, c.if-dst-total.false))

pub finish-requires : goal.finish-requires
finish-requires c =
    let small = total_small (goal.at.finish-requires c).After-records_at-start in
    (c.requires.1, omega (arith, small))

pub returns : goal.returns
returns c =
    let starts = starts_at (goal.at.returns c).After-records_at-start in
    let total = total_is (goal.at.returns c).After-records_at-start in
    let q = c.requires in
    let fits : c.records_at-start.result + c.args.size ≤ length c.args.dst.now = omega (
      arith,
      c.if-dst-total.false,
    ) in
    whole_written today (joined c.args.first.now c.args.second.now) c.args.dst.now _ q.2
    total
    fits
    ((rw c.today-l.ensures at c.finish.ensures)
    ∙ whole_image q.0 q.1 q.2 q.3 starts fits c.pass.ensures)

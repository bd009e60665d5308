-- `page_calls::lay_out` meets its contract: the table's page is measured, then refused or written.
-- No loop, so no invariant.
use mathlib.Core.Path.{◌∙◌, ◌≡◌, ap}
use lib.ListN.{length}
use native.Mathlib.Omega.{arith}
use Rattle.octets.specs.Octets.{overwrite}
use Rattle.book_check.proofs.FromBook.{no_room_for, whole_of}
use Rattle.page.specs.Page.{page_image}
use Rattle.page_calls.proofs.Laying.{table-valid, total_is}
use Rattle.page_calls.proofs.lay_out.Goals as goal
use Rattle.page_calls.proofs.lay_out.Goals.{After-page_size-total}
use Rattle.page_calls.proofs.lay_out.Given.{Over}

total : {g : Over} (c : After-page_size-total g)
    → c.page_size-total.result ≡ length (page_image c.args.book.now)
total c = total_is c.unpack.ensures c.len-n.ensures.ok (rw c.len-n.ensures.count at c.page_size-total.ensures)

pub returns-then-dst-total : goal.returns-then-dst-total
returns-then-dst-total g c =
    no_room_for page_image _ _
    (omega (arith, total (goal.at.returns-then-dst-total g c).After-page_size-total, c.if-dst-total.true))

pub write-requires : goal.write-requires
write-requires g c =
    record {
      table = rw c.len-n.ensures.count c.unpack.ensures.table;
      ok = rw c.len-n.ensures.count (table-valid c.unpack.ensures c.len-n.ensures.ok);
      room = rw (c.len-n.ensures.count, c.unpack.ensures.same)
          (omega (arith, total (goal.at.write-requires g c).After-page_size-total, c.if-dst-total.false));
    }

pub returns : goal.returns
returns g c =
    whole_of page_image _ _ _ c.len-n.ensures.count (total (goal.at.returns g c).After-page_size-total)
    (omega (arith, c.if-dst-total.false))
    ((rw c.len-n.ensures.count at c.write.ensures)
    ∙ ap (λ es. overwrite c.args.dst.now (page_image es)) c.unpack.ensures.same)

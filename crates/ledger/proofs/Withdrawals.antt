-- A withdrawal into a buffer no shorter than the old image is never refused 7.
use Prim.Native.Nat.{◌≤◌, ℕ}
use mathlib.Core.Path.{ap}
use mathlib.Core.List.{List, []}
use lib.ListN.{length, length-append}
use native.Mathlib.Omega.{arith}
use Rattle.entries.specs.Entries.{Entry}
use Rattle.frame.specs.Frame.{entries_of}
use Rattle.book.specs.Book.{book_image, in_book}
use Rattle.edit.proofs.Withdrawing.{withdrawal_given, withdrawal_not_seven}
use Rattle.ledger.specs.History.{Buffers, buffers_after, started}
use Rattle.ledger.specs.Ledger.{held}
use Rattle.ledger.specs.Withdrawals.{WithdrawalFits}
use Rattle.ledger.proofs.Demand.{empty_fits}
use Rattle.ledger.proofs.History.{Holds, history-holds, reads, start_holds}

-- the old image fits in the other buffer, since it stands in one as long
image_fits :
    (L : ℕ) (es : List Entry) (b : Buffers) → Holds L es b → length (book_image (in_book b.book)) ≤ length b.other
image_fits L es b h =
    let r = ap (λ o. length (book_image (entries_of o))) (reads L es b h) in
    let f = ap length h.front in
    let a = length-append (book_image es) h.rest in
    omega (arith, h.size, h.other_size)

pub withdrawal_fits_lem : WithdrawalFits
withdrawal_fits_lem =
    record {
      taken_out = withdrawal_given;
      never_seven = withdrawal_not_seven;
      in_histories = λ L a b h p q x y f w e.
          let now = buffers_after h (started a b) in
          let s = start_holds L a b p q (rw p at (empty_fits a x y)) in
          let k = history-holds L h [] (started a b) s f in
          withdrawal_not_seven now.book w now.other (image_fits L (held L h []) now k) e;
    }

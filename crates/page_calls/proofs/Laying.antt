-- A book unpacked into a table: the page of the table's entries is that of the book's.
use Prim.Native.Nat.{ℕ}
use mathlib.Core.Path.{◌∙◌, ◌≡◌, ap}
use mathlib.Core.Bool.{true}
use mathlib.Core.List.{List}
use lib.ListN.{length, take}
use Rattle.entries.specs.Entries.{Entry, valid}
use Rattle.book_table.specs.Table.{Unpacked, entries}
use Rattle.page.specs.Page.{page_image}
use Rattle.page_write.specs.Lines.{page_bytes}
use Rattle.page_write.proofs.Paging.{size_is}

module _
    {es : List Entry} {names lens scores : List ℕ} (u : Unpacked es names lens scores) (ok : valid es ≡ true)
  where
    pub table-valid : valid (entries names (take (length es) lens) scores) ≡ true
    table-valid = rw u.same ok

    pub total_is : {total : ℕ} → total ≡ page_bytes (take (length es) lens) → total ≡ length (page_image es)
    total_is e =
        e
        ∙ size_is names (take (length es) lens) scores u.table table-valid
        ∙ ap (λ x. length (page_image x)) u.same

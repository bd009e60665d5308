-- What a call reports that writes a whole book: 7 where it does not fit, else its entries and bytes.
use Prim.Native.Nat.{◌<◌, ◌≤◌, ℕ}
use mathlib.Core.Path.{◌≡◌}
use mathlib.Core.List.{List}
use lib.ListN.{length}
use native.Mathlib.Omega.{arith}
use borrow.Author.Tests.{le-ltb, lt-ltb}
use Rattle.octets.specs.Octets.{overwrite}
use Rattle.entries.specs.Entries.{Entry}
use Rattle.answer.specs.Answers.{writing, writing_image}
use Rattle.answer.specs.Reports.{Answered}
use Rattle.book.specs.declared.Layout.{Layout}
use Rattle.book.specs.Book.{image_in}
use Rattle.book_write.specs.Whole.{whole_in}
use Rattle.answer.specs.declared.Refusal.TheVariants as refusal
use Rattle.std.specs.Prelude.{Err, Ok}

-- a whole book, refused or written
pub whole_refused :
    (l : Layout) (es : List Entry) (dst : List ℕ) {total : ℕ} → total ≡ length (image_in l es) → length dst < total
    → Answered (whole_in l es dst) (Err refusal.TooShort) dst
unfolding writing_image writing
whole_refused l es dst e h =
    let t = lt-ltb (length dst) (length (image_in l es)) (omega arith) in
    record { answer = rw t; left = rw t }

pub whole_written :
    (l : Layout) (es : List Entry) (dst left : List ℕ) {n total : ℕ} → n ≡ length es
    → total ≡ length (image_in l es) → total ≤ length dst → left ≡ overwrite dst (image_in l es)
    → Answered (whole_in l es dst) (Ok (record { entries = n; bytes = total })) left
unfolding writing_image writing
whole_written l es dst left m t h e =
    let u = le-ltb (length dst) (length (image_in l es)) (omega arith) in
    record { answer = rw (u, m, t); left = rw u e }

-- Calls that write an image from a book: refused, or written and reported.
use Prim.Native.Nat.{◌<◌, ◌≤◌, ℕ}
use mathlib.Core.Path.{◌∙◌, ◌≡◌, refl}
use mathlib.Core.List.{List, []}
use Rattle.std.specs.Prelude.{Err, Ok, Result}
use lib.ListN.{length}
use native.Mathlib.Omega.{arith}
use borrow.Author.Tests.{le-ltb, lt-ltb}
use Rattle.octets.specs.Octets.{overwrite}
use Rattle.entries.specs.Entries.{Entry}
use Rattle.answer.specs.Answers.{writing, writing_image}
use Rattle.answer.specs.Reports.{Answered}
use Rattle.answer.proofs.Answers.{answered_as}
use Rattle.book.specs.Book.{in_book}
use Rattle.book.specs.Checks.{from_book}
use Rattle.book.proofs.Checks.{read_not_old}
use Rattle.book_check.specs.Checked.{Declined, Known, entries_in}
use Rattle.book_check.specs.declared.known.Checked.{Checked}
use Rattle.book_check.proofs.Refusing.{refused_image}
use Rattle.answer.specs.declared.Refusal.{Refusal}
use Rattle.answer.specs.declared.Refusal.TheVariants as refusal
use Rattle.answer.specs.declared.Size.{Size}

module _ (image : List Entry → List ℕ) where
  -- the image of entries, where there is room for it
  module _ (es : List Entry) (dst : List ℕ) where
    pub no_room_for : length dst < length (image es)
        → Answered (writing_image [] es (image es) dst) (Err refusal.TooShort) dst
    unfolding writing_image writing
    no_room_for l =
        let t = lt-ltb (length dst) (length (image es)) l in
        record { answer = rw t; left = rw t }

    pub whole_of :
        {n total : ℕ} (left : List ℕ) → n ≡ length es → total ≡ length (image es) → total ≤ length dst
        → left ≡ overwrite dst (image es)
        → Answered (writing_image [] es (image es) dst) (Ok (record { entries = n; bytes = total })) left
    unfolding writing_image writing
    whole_of left m t l e =
        let u = le-ltb (length dst) (length (image es)) (omega arith) in
        record { answer = rw (u, m, t); left = rw u e }

  pub from_refused :
      {book : List ℕ} {r : Refusal} → Declined book r → (dst : List ℕ) → Answered (from_book image book dst) (Err r) dst
  from_refused {book} c dst =
      answered_as (refused_image c [] (in_book book) (image (in_book book)) dst) (record { answer = refl; left = refl })

  -- a book that was checked: what is answered of its entries is the call's answer
  module _
      {book key : List ℕ} {c : Checked} (k : Known book key c) {es : List Entry} (same : es ≡ entries_in c)
      (dst : List ℕ)
    where
      pub from_known :
          {r : Result Size Refusal} {left : List ℕ} → Answered (writing_image [] es (image es) dst) r left
          → Answered (from_book image book dst) r left
      unfolding writing_image writing
      from_known a = rw (read_not_old book k.is_it, k.is_it) (rw (same ∙ k.entries) at a)

      pub from_no_room :
          length dst < length (image es) → Answered (from_book image book dst) (Err refusal.TooShort) dst
      from_no_room l = from_known (no_room_for es dst l)

      pub from_whole :
          {n total : ℕ} (left : List ℕ) → n ≡ length es → total ≡ length (image es) → total ≤ length dst
          → left ≡ overwrite dst (image es)
          → Answered (from_book image book dst) (Ok (record { entries = n; bytes = total })) left
      from_whole left m t l e = from_known (whole_of es dst left m t l e)

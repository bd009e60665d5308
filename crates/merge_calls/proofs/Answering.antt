-- Merge: from the book of all entries chosen, or the refusal, to its definition.
use Prim.Native.Nat.{◌≤◌, ℕ}
use mathlib.Core.Path.{◌∙◌, ◌≡◌, ap, refl, sym}
use mathlib.Core.Bool.{false, true}
use mathlib.Core.List.{List}
use lib.Dec.{ltb}
use lib.ListN.{length}
use borrow.Author.Tests.{le-ltb}
use Rattle.entries.specs.Entries.{Entry, max_entries, valid}
use Rattle.answer.specs.Answers.{Answer, WrittenCounts, given, refused, writing, writing_image}
use Rattle.book.specs.Checks.{is_old}
use Rattle.book.proofs.Checks.{read_not_old}
use Rattle.book_laws.specs.Held.{Held}
use Rattle.book_laws.proofs.Held.{held_stored}
use Rattle.book_check.specs.Checked.{Declined}
use Rattle.answer.specs.Reports.{Answered, number_of}
use Rattle.book_write.specs.Whole.{whole_book}
use Rattle.answer.proofs.Answers.{answered_as}
use Rattle.merge.specs.Joined.{joined, merge_books, merged_entries}
use Rattle.merge_calls.specs.Merging.{PassTold}
use Rattle.merge_calls.proofs.Whole.{counted_few}
use Rattle.merge_calls.specs.declared.MergePass.{MergePass}
use Rattle.answer.specs.declared.Refusal.{Refusal}
use Rattle.answer.specs.declared.Refusal.TheVariants as refusal
use Rattle.answer.specs.declared.Size.{Size}
use Rattle.std.specs.Prelude.{Err, Result}
use Rattle.book.specs.Book.{in_book, is_book}
use Rattle.octets.proofs.Tests.{by_test}

-- 10 covers both, and then 1
module _ (one other dst : List ℕ) where
  pub first_old : is_old one ≡ true → Answered (merge_books one other dst) (Err refusal.OldVersion) dst
  unfolding merge_books writing_image writing
  first_old t = record { answer = rw t; left = rw t }

  pub second_old :
      is_old one ≡ false → is_old other ≡ true → Answered (merge_books one other dst) (Err refusal.OldVersion) dst
  unfolding merge_books writing_image writing
  second_old t u = record { answer = rw (t, u); left = rw (t, u) }

-- a book that is no old one is declined as damaged
damaged :
    {book : List ℕ} {r : Refusal} → Declined book r → is_old book ≡ false
    → (is_book book ≡ false) × ◌≡◌ {A = Answer WrittenCounts} (refused (number_of r)) (refused 1)
damaged {book} {r} c o =
    by_test (is_book book)
    (λ t. let z : ◌≡◌ {A = Answer ℕ} (given 0) (refused (number_of r)) = rw (o, t) at c.refusal in cc)
    (λ t.
    let z : ◌≡◌ {A = Answer ℕ} (refused 1) (refused (number_of r)) = rw (o, t) at c.refusal in
    let y : number_of r ≡ 1 = cc in
    (t, ap refused y))

module _
    (one other : List ℕ) (o : is_old one ≡ false) (p : is_old other ≡ false) (dst : List ℕ) {r : Refusal}
  where
    pub first_damaged : Declined one r → Answered (merge_books one other dst) (Err r) dst
    unfolding merge_books writing_image writing
    first_damaged c =
        let z = damaged c o in
        record { answer = z.1 ∙ rw (o, p, z.0); left = rw (o, p, z.0) }

    pub second_damaged : is_book one ≡ true → Declined other r → Answered (merge_books one other dst) (Err r) dst
    unfolding merge_books writing_image writing
    second_damaged h c =
        let z = damaged c p in
        record { answer = z.1 ∙ rw (o, p, h, z.0); left = rw (o, p, h, z.0) }

-- the entries of a book are such as a book may have
pub entries_ok : (book : List ℕ) → is_book book ≡ true → {es : List Entry} → es ≡ in_book book → valid es ≡ true
entries_ok book h v =
    let held : Held book (length (in_book book)) = record { is_it = h; count = refl } in
    rw v (held_stored held).ok

-- both are books, es and fs their entries
module _
    (one other : List ℕ) (o : is_book one ≡ true) (p : is_book other ≡ true) {es fs : List Entry}
    (v : es ≡ in_book one) (w : fs ≡ in_book other)
    {r : MergePass} (c : PassTold (joined es fs) max_entries 0 r) (dst : List ℕ)
  where
    first_new : is_old one ≡ false
    first_new = read_not_old one o

    second_new : is_old other ≡ false
    second_new = read_not_old other p

    -- 5: there are more
    pub too_many : r.more ≡ true → Answered (merge_books one other dst) (Err refusal.Full) dst
    unfolding merge_books writing_image writing
    too_many t =
        let u : ltb max_entries (length (merged_entries one other)) ≡ true = rw (v, w) at (sym c.more ∙ t) in
        record {
          answer = rw (first_new, second_new, o, p, u);
          left = rw (first_new, second_new, o, p, u);
        }

    pub merged : r.more ≡ false → {x : Result Size Refusal} {left : List ℕ}
        → Answered (whole_book (joined es fs) dst) x left
        → Answered (merge_books one other dst) x left
    unfolding merge_books writing_image writing
    merged t a =
        let few : length (merged_entries one other) ≤ max_entries = rw (v, w) at (counted_few c t) in
        let u : ltb max_entries (length (merged_entries one other)) ≡ false = le-ltb max_entries
        (length (merged_entries one other)) few
        in
        let e : merge_books one other dst ≡ whole_book (merged_entries one other) dst = rw (
          first_new,
          second_new,
          o,
          p,
          u,
        ) in
        answered_as e (rw (v, w) at a)

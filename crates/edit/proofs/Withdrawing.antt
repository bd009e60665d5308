-- A withdrawal is accepted wherever the old image fits, so it is never refused 7 there.
use Prim.Native.Nat.{◌≤◌, ℕ}
use mathlib.Core.Path.{◌≡◌, refl}
use mathlib.Core.Bool.{true}
use mathlib.Core.List.{List}
use lib.ListN.{length}
use native.Mathlib.Omega.{arith}
use borrow.Author.Tests.{le-ltb}
use Rattle.octets.proofs.Lists.{at_all}
use Rattle.octets.proofs.Tests.{by_test}
use Rattle.entries.specs.Entries.{Entry, holds, no_entry, position, valid, without}
use Rattle.entries.specs.Names.{is_name}
use Rattle.entries.proofs.Valid.{valid_of}
use Rattle.entries_laws.proofs.Place.{position_at}
use Rattle.answer.specs.Answers.{Answer, WrittenCounts, given, refused, writing, writing_image}
use Rattle.book.specs.Book.{book_image, in_book, is_book, reported, today}
use Rattle.book.specs.Checks.{is_old}
use Rattle.book.proofs.Checks.{read_not_old}
use Rattle.book.proofs.Reading.{valid_in}
use Rattle.edit.specs.Edits.{withdraw_entry}
use Rattle.edit.proofs.Shrinks.{withdrawn_shorter}

-- a held name is allowed
held-allowed : (w : List ℕ) (es : List Entry) → valid es ≡ true → holds w es ≡ true → is_name w ≡ true
held-allowed w es v h =
    let p = position_at w es h in
    let n = at_all (λ f. is_name f.name) no_entry es (valid_of es v).allowed (position w es) p.0 in
    rw p.1 at n

-- the result of a withdrawal fits where the old image does
without_fits :
    (w : List ℕ) (es : List Entry) (n : ℕ) → valid es ≡ true → holds w es ≡ true → length (book_image es) ≤ n
    → length (book_image (without w es)) ≤ n
without_fits w es n v h l = let s = withdrawn_shorter today refl w es (valid_of es v).order h in omega arith

pub withdrawal_given :
    (book w dst : List ℕ) → is_book book ≡ true → holds w (in_book book) ≡ true
    → length (book_image (in_book book)) ≤ length dst
    → (withdraw_entry book w dst).answer ≡ given (reported (without w (in_book book)))
unfolding withdraw_entry writing_image writing
withdrawal_given book w dst t u l =
    let es = in_book book in
    let v = valid_in book t in
    rw (
      read_not_old book t,
      t,
      held-allowed w es v u,
      u,
      le-ltb (length dst) (length (book_image (without w es))) (without_fits w es (length dst) v u l),
    )

-- an answer that is not 7
other_number : {n : ℕ} → ◌≡◌ {A = Answer WrittenCounts} (refused n) (refused 7) → (n ≡ 7 → ⊥) → ⊥
other_number e h = h (cc)

not_refused : {x : WrittenCounts} → ◌≡◌ {A = Answer WrittenCounts} (given x) (refused 7) → ⊥
not_refused e = let z : ◌≡◌ {A = ℕ} 0 1 = cc in omega arith

pub withdrawal_not_seven :
    (book w dst : List ℕ) → length (book_image (in_book book)) ≤ length dst
    → (withdraw_entry book w dst).answer ≡ refused 7 → ⊥
unfolding withdraw_entry writing_image writing
withdrawal_not_seven book w dst l e =
    by_test (is_old book) (λ o. other_number (rw o at e) (λ z. omega arith))
    (λ o.
    by_test (is_book book)
    (λ t.
    by_test (holds w (in_book book)) (λ u. not_refused (rw (withdrawal_given book w dst t u l) at e))
    (λ u.
    by_test (is_name w) (λ n. other_number (rw (o, t, n, u) at e) (λ z. omega arith))
    (λ n. other_number (rw (o, t, n) at e) (λ z. omega arith))))
    (λ t. other_number (rw (o, t) at e) (λ z. omega arith)))

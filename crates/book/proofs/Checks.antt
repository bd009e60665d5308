-- What every call that is given books declines for first: a book that is read is not an old one, so that it passes; and
-- the number for two books is the greater of the numbers for each.
use Prim.Native.Nat.{◌≤◌, max, ℕ}
use mathlib.Core.Path.{◌∙◌, ◌≡◌, ap, sym}
use mathlib.Core.Bool.{false, not, true}
use mathlib.Core.List.{List, [], ◌∷◌}
use lib.ListN.{get_or}
use native.Mathlib.Omega.{arith}
use borrow.Author.Tests.{eq-eqb, ne_eqb}
use Rattle.octets.proofs.Order.{begins_first}
use Rattle.octets.proofs.Tests.{by_test}
use Rattle.answer.specs.Answers.{Check, given, number, refused, unless}
use Rattle.book.specs.declared.Layout.{Layout}
use Rattle.book.specs.Book.{in_book_in, is_book, is_book_in, layout21, today}
use Rattle.book.specs.Checks.{book_checks, is_old}
use Rattle.book.proofs.Reading.{exact_in, read_in_lem}
use Rattle.book.proofs.Sections.{sections_of}

-- byte 0 of a book that is read is its version
pub read_version : (l : Layout) (buf : List ℕ) → is_book_in l buf ≡ true → get_or buf 0 0 ≡ l.version
read_version l buf h =
    let es = in_book_in l buf in
    begins_first l.version buf (sections_of l es buf ((exact_in l).sound es buf (read_in_lem l buf h)).1).has_version

-- so one of today is not an old one, and one of 21 is
pub read_not_old : (buf : List ℕ) → is_book buf ≡ true → is_old buf ≡ false
read_not_old buf h =
    let v = read_version today buf h in
    ne_eqb (get_or buf 0 0) layout21.version (λ e. absurd (omega arith))

pub read_old : (buf : List ℕ) → is_book_in layout21 buf ≡ true → is_old buf ≡ true
read_old buf h = eq-eqb (get_or buf 0 0) layout21.version (read_version layout21 buf h)

-- so nothing is declined for it
pub book_clear : (buf : List ℕ) → is_book buf ≡ true → unless {A = ℕ} (book_checks (buf ∷ [])) 0 ≡ given 0
book_clear buf h = rw (read_not_old buf h, h)

-- The number for one book: 10, 1, or 0 where it is none of the two.
abbrev pub refusal_of : List ℕ → ℕ
refusal_of book = number (unless {A = ℕ} (book_checks (book ∷ [])) 0)

pub refusal_old : (book : List ℕ) → is_old book ≡ true → refusal_of book ≡ 10
refusal_old book t = rw t

pub refusal-damaged : (book : List ℕ) → is_old book ≡ false → is_book book ≡ false → refusal_of book ≡ 1
refusal-damaged book t u = rw (t, u)

pub refusal-none : (book : List ℕ) → is_book book ≡ true → refusal_of book ≡ 0
refusal-none book h = ap number (book_clear book h)

pub one-refused :
    (book : List ℕ) {t : ℕ} → t ≡ refusal_of book → (t ≡ 0 → ⊥) → unless {A = ℕ} (book_checks (book ∷ [])) 0 ≡ refused t
one-refused book e h =
    by_test (is_old book)
    (λ u. let z = refusal_old book u in rw u (ap refused (sym (e ∙ z))))
    (λ u.
    by_test (is_book book)
    (λ v. absurd (h (e ∙ refusal-none book v)))
    (λ v. let z = refusal-damaged book u v in rw (u, v) (ap refused (sym (e ∙ z)))))

-- at most 10, and at most 1 where the book is not an old one
refusal_most : (book : List ℕ) → refusal_of book ≤ 10
refusal_most book =
    by_test (is_old book)
    (λ t. let z = refusal_old book t in omega arith)
    (λ t.
    by_test (is_book book)
    (λ u. let z = refusal-none book u in omega arith)
    (λ u. let z = refusal-damaged book t u in omega arith))

refusal_few : (book : List ℕ) → is_old book ≡ false → refusal_of book ≤ 1
refusal_few book t =
    by_test (is_book book)
    (λ u. let z = refusal-none book u in omega arith)
    (λ u. let z = refusal-damaged book t u in omega arith)

-- two books: the greater number is told
pub two-refused :
    (first second : List ℕ) {t : ℕ} → t ≡ max (refusal_of first) (refusal_of second) → (t ≡ 0 → ⊥)
    → unless {A = ℕ} (book_checks (first ∷ second ∷ [])) 0 ≡ refused t
two-refused first second {t} e h =
    by_test (is_old first)
    (λ a.
    let x = refusal_old first a in
    let y = refusal_most second in
    let z : t ≡ 10 = omega arith in
    rw (a, z))
    (λ a.
    let x = refusal_few first a in
    by_test (is_old second)
    (λ b.
    let y = refusal_old second b in
    let z : t ≡ 10 = omega arith in
    rw (a, b, z))
    (λ b.
    let y = refusal_few second b in
    by_test (is_book first)
    (λ c.
    let x' = refusal-none first c in
    by_test (is_book second)
    (λ d. let y' = refusal-none second d in absurd (h (omega arith)))
    (λ d.
    let y' = refusal-damaged second b d in
    let z : t ≡ 1 = omega arith in
    rw (a, b, c, d, z)))
    (λ c.
    let x' = refusal-damaged first a c in
    let z : t ≡ 1 = omega arith in
    rw (a, b, c, z))))

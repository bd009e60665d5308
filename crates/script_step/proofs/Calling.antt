-- One call: its counts are small, and on the bench it goes from the buffer that holds the book into the other.
use Prim.Native.Nat.{◌+◌, ◌-◌, ◌<◌, ◌≤◌, ℕ}
use Prim.Native.Char.{code}
use mathlib.Core.Path.{◌∙◌, ◌≡◌, ap, refl, sym}
use mathlib.Core.Logic.{inl, inr}
use mathlib.Core.Bool.{Bool, ◌||◌, false, not, true}
use mathlib.Core.List.{List, [], ◌++◌, ◌∷◌}
use lib.Dec.{eqb}
use lib.ListN.{drop, get_or, length, length-append, set, take}
use lib.Seq.{sets}
use native.Mathlib.Numerals.{add-one}
use native.Mathlib.Omega.{arith}
use borrow.Author.Tests.{ne_eqb, not-false}
use Rattle.octets.specs.Lists.{if◌then◌otherwise◌}
use Rattle.octets.specs.Octets.{be, number_at}
use Rattle.octets.proofs.Coding.{length-be}
use Rattle.octets.proofs.Stores.{sets-append}
use Rattle.octets.proofs.Tests.{or_false}
use Rattle.entries.specs.Entries.{Entry, entry, valid, with, without}
use Rattle.entries.specs.Names.{is_name, is_score}
use Rattle.entries.proofs.Edits.{valid-with, valid-without}
use Rattle.entries.proofs.Valid.{score_fits_lem, valid_of}
use Rattle.answer.specs.Answers.{Answer, WrittenCounts, ◌when◌, given, number, on_answer, refused, too_short, writing}
use Rattle.answer.specs.Answers.{writing_image}
use Rattle.book.specs.Book.{book_image, in_book, is_book, reported, today}
use Rattle.book.specs.Checks.{book_checks}
use Rattle.answer.proofs.Answers.{clear, given_is}
use Rattle.book.proofs.Size.{book_length_lem}
use Rattle.edit.specs.Edits.{set_entry, set_refusals, withdraw_entry, withdraw_refusals}
use Rattle.ledger.specs.Ledger.{Edit, set_name, withdraw_name}
use Rattle.book.proofs.Reading.{valid_in}
use Rattle.answer.specs.Reports.{Answered, written_of}
use Rattle.script_step.specs.Calls.{Called, Performed, Small, Tells, edit_of}
use Rattle.script.specs.Run.{Bench, bench, bench_step, buffers}
use Rattle.script.specs.Script.{answer_bytes, call_at, call_name}
use Rattle.std.proofs.Common.{Err, Ok, Result}
use Rattle.answer.specs.declared.Refusal.{Refusal}
use Rattle.answer.specs.declared.Size.{Size}
use Rattle.script_step.specs.declared.Edit.TheVariants as edit
use Rattle.script_step.specs.declared.AnswerNumbers.{AnswerNumbers}

-- a book that is written has few entries and bytes
small_of : (es : List Entry) (x : WrittenCounts) → valid es ≡ true → reported es ≡ x → Small (given x)
small_of es x v e =
    let few = (valid_of es v).few in
    let l = book_length_lem today es v in
    let p = ap (λ y. y.entries) e in
    let q = ap (λ y. y.bytes) e in
    record { entries = omega arith; bytes = omega arith }

small_refused : (n : ℕ) → Small (refused n)
small_refused n = record { entries = omega arith; bytes = omega arith }

-- a book for which 1 does not apply
is_book_lem : (book : List ℕ) → (not (is_book book) || false) ≡ false → is_book book ≡ true
is_book_lem book h = not-false (is_book book) (or_false (not (is_book book)) false h).0

set_small :
    (book w dst : List ℕ) (s : ℕ) → is_score s ≡ true → (a : Answer WrittenCounts) → (set_entry book w s dst).answer ≡ a
    → Small a
unfolding set_entry writing_image writing
set_small book w dst s f (refused n) h = small_refused n
set_small book w dst s f (given x) h =
    let es = in_book book in
    let after = with (entry w s) es in
    let cs = (book_checks (book ∷ []) ++ set_refusals w es) ++ (7 when too_short dst (book_image after) ∷ []) in
    let ok = clear cs (reported after) x h in
    let v = valid_in book (is_book_lem book (ok _ (inr (inl refl)))) in
    let u = valid-with (entry w s) es v (not-false (is_name w) (ok _ (inr (inr (inl refl))))) f
    (ok _ (inr (inr (inr (inl refl)))))
    in
    small_of after x u (given_is cs (reported after) x h)

withdraw_small : (book w dst : List ℕ) (a : Answer WrittenCounts) → (withdraw_entry book w dst).answer ≡ a → Small a
unfolding withdraw_entry writing_image writing
withdraw_small book w dst (refused n) h = small_refused n
withdraw_small book w dst (given x) h =
    let es = in_book book in
    let after = without w es in
    let cs = (book_checks (book ∷ []) ++ withdraw_refusals w es) ++ (7 when too_short dst (book_image after) ∷ []) in
    let ok = clear cs (reported after) x h in
    let v = valid_in book (is_book_lem book (ok _ (inr (inl refl)))) in
    small_of after x (valid-without w es v) (given_is cs (reported after) x h)

-- a call by its kind
module _ (w book dst : List ℕ) {r : Result Size Refusal} {left : List ℕ} where
  pub set_called :
      (s : ℕ) → s < 4294967296 → Answered (set_entry book w s dst) r left
      → Called (edit_of (edit.Set s) w) (buffers book dst) r left
  set_called s l a =
      record { answered = a; small = set_small book w dst s (score_fits_lem s l) (written_of r) (sym a.answer) }

  pub withdraw_called : Answered (withdraw_entry book w dst) r left
      → Called (edit_of edit.Withdraw w) (buffers book dst) r left
  withdraw_called a = record { answered = a; small = withdraw_small book w dst (written_of r) (sym a.answer) }

-- the call at the front of bytes, by its kind
module _ (bs : List ℕ) {w : List ℕ} (n : w ≡ call_name bs) where
  pub set_part : {s : ℕ} → get_or bs 0 0 ≡ 0 → s ≡ number_at 4 bs 1 → set_name w s ≡ call_at bs
  unfolding call_at
  set_part e q = rw (e, n, q)

  pub withdraw_part : (get_or bs 0 0 ≡ 0 → ⊥) → withdraw_name w ≡ call_at bs
  unfolding call_at
  withdraw_part e = rw (ne_eqb (get_or bs 0 0) 0 e, n)

-- the part behind the 7 bytes in front is the name
pub part_name : (bs : List ℕ) {n : ℕ} → n ≡ number_at 2 bs 5 → take (7 + n - 7) (drop 7 bs) ≡ call_name bs
part_name bs {n} e = let z : 7 + n - 7 ≡ number_at 2 bs 5 = omega arith in rw z

-- from the second buffer into the first, and from the first into the second
module _ (c : Edit) (one two : List ℕ) {left : List ℕ} {r : Result Size Refusal} where
  pub back : {t : Bool} → t ≡ true → Called c (buffers two one) r left → Performed c (bench one two t) r left two
  unfolding bench_step
  back e k = rw e (record { answer = k.answered.answer; first = k.answered.left; second = refl; small = k.small })

  pub forth : {t : Bool} → t ≡ false → Called c (buffers one two) r left → Performed c (bench one two t) r one left
  unfolding bench_step
  forth e k = rw e (record { answer = k.answered.answer; first = refl; second = k.answered.left; small = k.small })

-- a size that an answer gives is small
pub size_small : {s : Size} → Small (written_of (Ok s)) → (s.entries ≤ 1024) × (s.bytes ≤ 55559)
size_small h = (h.entries, h.bytes)

-- an answer's bytes stored number by number
pub length_answer : (a : Answer WrittenCounts) → length (answer_bytes a) ≡ 7
unfolding answer_bytes
length_answer a = simp (length-append, length-be)

pub stored :
    (out : List ℕ) (at : ℕ) (a : Answer WrittenCounts) {t : AnswerNumbers} → Tells a t
    → sets (sets (set out at t.number) (at + 1) (be 2 t.entries)) (at + 3) (be 4 t.bytes) ≡ sets out at
    (answer_bytes a)
unfolding answer_bytes
stored out at a {t} k =
    let z : at + 3 ≡ at + 1 + length (be 2 t.entries) = omega (arith, length-be 2 t.entries) in
    rw z (sets-append (set out at t.number) (be 2 t.entries) (be 4 t.bytes) (at + 1)
    ∙ rw (k.code, k.entries, k.bytes, add-one at))

-- what a call leaves is the bench's next step
pub performed_bench :
    {c : Edit} {b : Bench} {r : Result Size Refusal} {one two : List ℕ} {t : Bool} → Performed c b r one two
    → t ≡ on_answer (written_of r) b.turned (not b.turned) → bench one two t ≡ bench_step c b
unfolding bench_step
performed_bench p q = rw (p.first, p.second, q, p.answer)

-- Name-at-by-name: the name that was found is written with its score.
use mathlib.Core.Path.{◌∙◌, ◌≡◌, ap, refl, sym}
use Prim.Native.Nat.{ℕ}
use mathlib.Core.Bool.{false, false≢true, not, true}
use mathlib.Core.List.{List, [], ◌++◌, ◌∷◌}
use mathlib.Core.Logic.{inl, inr}
use Rattle.std.specs.Prelude.{Err, None, Option, Result, Some}
use borrow.Author.Tests.{not-false}
use Rattle.octets.specs.Lists.{any, ◌∈◌}
use Rattle.octets.proofs.Tests.{by_test}
use Rattle.entries.specs.Entries.{at, entry, holds, position}
use Rattle.entries.specs.Names.{is_name}
use Rattle.answer.specs.Answers.{Check, ◌when◌, entry_bytes, given, refused, unless, writing, writing_image}
use Rattle.book.specs.Book.{in_book, is_book}
use Rattle.book.specs.Checks.{book_checks}
use Rattle.lookup.specs.Lookups.{find, found_in, name_of}
use Rattle.answer.specs.Reports.{Answered, finding, number_of}
use Rattle.answer_write.specs.Entry.{one_entry}
use Rattle.answer.specs.declared.Refusal.{Refusal}
use Rattle.answer.specs.declared.Refusal.TheVariants as refusal
use Rattle.answer.specs.declared.Size.{Size}
use Rattle.answer.proofs.Answers.{answered_as, clear, given_is, image_refused}
use Rattle.book.proofs.Checks.{read_not_old}
use Rattle.answer.specs.declared.Found.{Found}
use Rattle.lookup_find.proofs.Finding.{found_entry, found_not}

name_of-entry :
    (b w dst : List ℕ) → is_book b ≡ true → is_name w ≡ true → holds w (in_book b) ≡ true
    → name_of b w dst ≡ one_entry (at (in_book b) (position w (in_book b))) dst
unfolding name_of writing_image writing
name_of-entry b w dst h k l = rw (read_not_old b h, h, k, l)

-- what finding declines with, it declines with
pub name_refused :
    (b w dst : List ℕ) {r : Refusal} → refused (number_of r) ≡ find b w → Answered (name_of b w dst) (Err r) dst
unfolding find name_of
name_refused b w dst {r} e =
    let es = in_book b in
    let x = at es (position w es) in
    answered_as
    (image_refused (book_checks (b ∷ []) ++ (2 when not (is_name w) ∷ [])) (found_in w es)
    (4 when not (holds w es) ∷ []) (x ∷ []) (entry_bytes x) dst (number_of r) (sym e))
    (record { answer = refl; left = refl })

-- where finding answers, the book is one, and the name allowed
module _ (b w : List ℕ) (o : Option Found) (e : given (finding o) ≡ find b w) where
  checks : unless (book_checks (b ∷ []) ++ (2 when not (is_name w) ∷ [])) (found_in w (in_book b)) ≡ given (finding o)
  unfolding find
  checks = sym e

  told : (c : Check) → c ∈ (book_checks (b ∷ []) ++ (2 when not (is_name w) ∷ [])) → c.applies ≡ false
  told = clear (book_checks (b ∷ []) ++ (2 when not (is_name w) ∷ [])) (found_in w (in_book b)) (finding o) checks

  pub allowed : is_name w ≡ true
  allowed = not-false (is_name w) (told (2 when not (is_name w)) (inr (inr (inl refl))))

  is_one : is_book b ≡ true
  is_one =
      let t = told (1 when any (λ x. not (is_book x)) (b ∷ [])) (inr (inl refl)) in
      by_test (is_book b) (λ u. u) (λ u. absurd (false≢true (sym (rw u at t))))

  is_found : finding o ≡ found_in w (in_book b)
  is_found =
      sym (given_is (book_checks (b ∷ []) ++ (2 when not (is_name w) ∷ [])) (found_in w (in_book b)) (finding o) checks)

  module _ (dst : List ℕ) where
    pub not_held : o ≡ None → Answered (name_of b w dst) (Err refusal.NotHeld) dst
    unfolding name_of writing_image writing
    not_held m =
        let t = found_not w (in_book b) (ap finding (sym m) ∙ is_found) in
        let n = read_not_old b is_one in
        record { answer = rw (n, is_one, allowed, t); left = rw (n, is_one, allowed, t) }

    pub of_name :
        {f : Found} {r : Result Size Refusal} {left : List ℕ} → o ≡ Some f
        → Answered (one_entry (entry w f.score) dst) r left → Answered (name_of b w dst) r left
    of_name {f} m a =
        let p = found_entry w (in_book b) {f = f} (ap finding (sym m) ∙ is_found) in
        answered_as (name_of-entry b w dst is_one allowed p.0 ∙ ap (λ x. one_entry x dst) (sym p.1)) a

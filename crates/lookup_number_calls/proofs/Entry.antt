-- Name-at: the entry at the position is written.
use Prim.Native.Nat.{◌<◌, ℕ}
use mathlib.Core.Path.{◌∙◌, ◌≡◌, ap, sym}
use mathlib.Core.Bool.{true}
use mathlib.Core.List.{List}
use lib.ListN.{length}
use borrow.Author.Tests.{lt-leb}
use Rattle.entries.specs.Entries.{Entry, at, entry}
use Rattle.entries.proofs.Same.{entry_eq}
use Rattle.answer.specs.Answers.{writing, writing_image}
use Rattle.book.specs.Book.{in_book, is_book}
use Rattle.lookup.specs.Lookups.{name_at}
use Rattle.book.proofs.Checks.{read_not_old}
use Rattle.answer.specs.Reports.{Answered}
use Rattle.answer_write.specs.Entry.{one_entry}
use Rattle.answer.specs.declared.Refusal.{Refusal}
use Rattle.answer.specs.declared.Size.{Size}
use Rattle.std.specs.Prelude.{Result}
use Rattle.answer.proofs.Answers.{answered_as}

name_at-entry :
    (b : List ℕ) (i : ℕ) (dst : List ℕ) → is_book b ≡ true → i < length (in_book b)
    → name_at b i dst ≡ one_entry (at (in_book b) i) dst
unfolding name_at writing_image writing
name_at-entry b i dst h l = rw (read_not_old b h, h, lt-leb (length (in_book b)) i l)

pub at_position :
    (b u dst : List ℕ) {left : List ℕ} {es : List Entry} (i s : ℕ) {r : Result Size Refusal} → is_book b ≡ true
    → es ≡ in_book b → i < length es → u ≡ (at es i).name → s ≡ (at es i).score
    → Answered (one_entry (entry u s) dst) r left → Answered (name_at b i dst) r left
at_position b u dst {left} {es} i s h v l e z a =
    let q = entry_eq (entry u s) (at (in_book b) i) (e ∙ ap (λ x. (at x i).name) v) (z ∙ ap (λ x. (at x i).score) v) in
    answered_as (name_at-entry b i dst h (rw v at l) ∙ ap (λ x. one_entry x dst) (sym q)) a

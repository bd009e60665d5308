-- What the head name and its companion answer: what the check of the book refuses first, then what the bucket decides.
use Prim.Native.Nat.{ℕ}
use mathlib.Core.Path.{◌∙◌, ◌≡◌, ap, sym}
use mathlib.Core.Bool.{Bool, ◌&&◌, false, not, true}
use mathlib.Core.List.{List, [], ◌∷◌}
use lib.Dec.{eqb, ltb}
use lib.ListN.{length}
use Rattle.entries.specs.Entries.{Entry, at}
use Rattle.answer.specs.Answers.{Answer, ◌when◌, given, refused}
use Rattle.book.specs.Book.{in_book, is_book}
use Rattle.book.proofs.Checks.{read_not_old}
use Rattle.lookup.specs.Lookups.{has_head, head_length, head_name}
use Rattle.book_check.specs.Checked.{Declined}
use Rattle.answer.specs.Reports.{number_of}
use Rattle.answer.specs.declared.Refusal.{Refusal}
use Rattle.book_check.proofs.Refusing.{refused_first}

module _ (b : List ℕ) (j : ℕ) {r : Refusal} (c : Declined b r) where
  pub length-refused : refused (number_of r) ≡ head_length b j
  unfolding head_length
  length-refused =
      let es = in_book b in
      sym (refused_first c (6 when not (has_head es j) ∷ []) (length (at es 0).name))

  -- then the part is empty
  pub head_refused : [] ≡ head_name b j
  unfolding head_name
  head_refused = rw (← length-refused)

module _
    (b : List ℕ) (j : ℕ) {n : ℕ} {t : Bool} (ok : is_book b ≡ true) {es : List Entry} (v : es ≡ in_book b)
    (k : n ≡ length es) (e : t ≡ (eqb j 0 && ltb 0 n))
  where
    decided : {x : Bool} → t ≡ x → has_head (in_book b) j ≡ x
    decided z = ap (λ m. eqb j 0 && ltb 0 m) (sym (k ∙ ap length v)) ∙ sym e ∙ z

    -- a bucket that has no head
    pub length_none : t ≡ false → ◌≡◌ {A = Answer ℕ} (refused 6) (head_length b j)
    unfolding head_length
    length_none z = rw (read_not_old b ok, ok, decided z)

    pub head_none : t ≡ false → [] ≡ head_name b j
    unfolding head_name
    head_none z = rw (← length_none z)

    -- the one that has it
    pub length_some : t ≡ true → given (length (at es 0).name) ≡ head_length b j
    unfolding head_length
    length_some z = rw (v, read_not_old b ok, ok, decided z)

    pub head_some : t ≡ true → (at es 0).name ≡ head_name b j
    unfolding head_name
    head_some z = rw v (rw (← length_some z, v))

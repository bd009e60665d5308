-- Completion from a book (document 01, "Completion"), as a function from all that the call is given and lent.
use Rattle.std.specs.Prelude.{◌*◌, ℕ, ◌≡◌, Bool, ◌||◌, not, Result, List, [], ◌++◌, ◌∷◌, eqb, ltb, length}
use Rattle.entries.specs.Completion.{completion, max_count}
use Rattle.entries.specs.Entries.{Entry}
use Rattle.entries.specs.Names.{is_prefix}
use Rattle.answer.specs.Answers.{Answer, Check, OfferedCounts, Outcome, ◌when◌, entries_bytes, given, refused, writing}
use Rattle.book.specs.declared.Layout.{Layout}
use Rattle.book.specs.Book.{in_book, in_book_in, is_book_in}
use Rattle.book.specs.Checks.{book_checks}
use Rattle.completion.specs.Machine.{machine}
use Rattle.answer.specs.declared.Offered.{Offered}
use Rattle.answer.specs.declared.Refusal.{Refusal}
use Rattle.answer.specs.Reports.{offered_of}
use Rattle.completion.specs.declared.Range.{Range}

-- the bytes that the destination must have for each entry asked for
abbrev pub entry_room : ℕ
entry_room = 53

-- k is 0 or over the limit
abbrev pub bad_count : ℕ → ℕ → Bool
bad_count limit k = eqb k 0 || ltb limit k

-- the entries offered, the bytes written and the looks
abbrev pub offered_as : List Entry → ℕ → OfferedCounts
offered_as l looks = record { offered = length l; bytes = length (entries_bytes l); looks = looks }

-- completion from the entries of a book, for counts up to a limit, behind the checks of the book; `ranges` is how many
-- ranges are lent
unfoldable pub complete_from : List Check → ℕ → List Entry → List ℕ → ℕ → List ℕ → ℕ → Outcome OfferedCounts
complete_from checks limit es p k dst ranges =
    let l = completion es p k in
    writing
    (checks
    ++ (2 when not (is_prefix p)
    ∷ 3 when bad_count limit k
    ∷ 7 when (ltb (length dst) (entry_room * k) || ltb ranges k)
    ∷ []))
    (offered_as l (machine es p k).looks)
    (entries_bytes l)
    dst

abbrev pub complete_book_within : ℕ → List ℕ → List ℕ → ℕ → List ℕ → ℕ → Outcome OfferedCounts
complete_book_within limit book p k dst ranges =
    complete_from (book_checks (book ∷ [])) limit (in_book book) p k dst ranges

-- completion from a book, as the call has it
abbrev pub complete_book : List ℕ → List ℕ → ℕ → List ℕ → ℕ → Outcome OfferedCounts
complete_book book p k dst ranges = complete_book_within max_count book p k dst ranges

-- completion from a book in any layout, which no call has: 1 where it is not laid out so
abbrev pub complete_in : Layout → List ℕ → List ℕ → ℕ → List ℕ → ℕ → Outcome OfferedCounts
complete_in l book p k dst ranges =
    complete_from (1 when not (is_book_in l book) ∷ []) max_count (in_book_in l book) p k dst ranges

-- The lent ranges before and after a call: as they were after a refusal, free after an answer.
abbrev pub Lent : {A R : Type 0} → Answer A → List R → List R → Type 0
Lent (refused n) before after = after ≡ before
Lent (given a) before after = length after ≡ length before

-- a call that completes answers r and leaves the destination dest, as its definition says
pub record Completed (o : Outcome OfferedCounts) (r : Result Offered Refusal) (dest : List ℕ) : Type 0 where
  pub answer : offered_of r ≡ o.answer
  pub left : dest ≡ o.dest

-- a call that completes answers r, leaves the destination dest, and leaves the lent ranges xs as ys
pub record CompletedOver (o : Outcome OfferedCounts) (r : Result Offered Refusal) (dest : List ℕ) (xs ys : List Range) :
    Type 0 where
  pub completed : Completed o r dest
  pub lent : Lent o.answer xs ys

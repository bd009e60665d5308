-- One set of entries in two versions of the book (document 02, request f): "The 21 and 22 images of one set of entries
-- must be shown to hold just those, with the same completions and looks by the definitions". It is so in any two
-- layouts.
use Rattle.std.specs.Prelude.{ℕ, ◌≡◌, false, true, List, ◌++◌}
use Rattle.std.proofs.Math.Option.{some}
use Rattle.entries.specs.Entries.{Entry, valid}
use Rattle.book.specs.declared.Layout.{Layout}
use Rattle.book.specs.Book.{image_in, read_in, today}
use Rattle.book.specs.Checks.{is_old}
use Rattle.completion.specs.Complete.{complete_book, complete_in}

-- The entries es in the layouts l and m, with any bytes behind their images:
pub record AlikeIn (l m : Layout) (es : List Entry) (rest rest' : List ℕ) : Type 0 where
  -- each image holds just these
  pub held_by_one : read_in l (image_in l es ++ rest) ≡ some es
  pub held_by_other : read_in m (image_in m es ++ rest') ≡ some es
  -- and completion from either gives the same answer, looks and all, and the same bytes
  pub same_offers :
      (p : List ℕ) (k : ℕ) (dst : List ℕ) (ranges : ℕ)
      → complete_in l (image_in l es ++ rest) p k dst ranges ≡ complete_in m (image_in m es ++ rest') p k dst ranges

abbrev pub AlikeInAll : Type 0
AlikeInAll = (l m : Layout) (es : List Entry) (rest rest' : List ℕ) → valid es ≡ true → AlikeIn l m es rest rest'

-- What the call does with a buffer that is not an old book is this completion, in the layout of today.
abbrev pub CompletesToday : Type 0
CompletesToday =
    (book p : List ℕ) (k : ℕ) (dst : List ℕ) (ranges : ℕ) → is_old book ≡ false
    → complete_book book p k dst ranges ≡ complete_in today book p k dst ranges

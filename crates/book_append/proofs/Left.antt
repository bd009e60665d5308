-- The loop of a pass, whatever gives the entries: to pass those that are left gives what to pass all of them at first
-- gives.
use Prim.Native.Nat.{ℕ}
use mathlib.Core.Path.{◌∙◌, ◌≡◌}
use mathlib.Core.Bool.{Bool}
use mathlib.Core.List.{List, [], ◌++◌}
use lib.ListN.{length}
use Rattle.entries.specs.Entries.{Entry}
use Rattle.book.specs.declared.Layout.{Layout}
use Rattle.book_append.specs.Append.{AppendDone, Fits}
use Rattle.book_append.proofs.Append.{fits_first, fits_rest, passed_append, passed_length, passed_none}
use Rattle.book_laws.specs.declared.Cursor.{Cursor}

-- es are left of all, and the first of them comes at the cursor w; d is the buffer then, d₀ the one at first
pub record Left (l : Layout) (store : Bool) (n : ℕ) (to : Cursor) (all : List Entry) (d₀ : List ℕ) (w : Cursor)
    (es : List Entry)
    (d : List ℕ) : Type 0 where
  pub same_length : length d ≡ length d₀
  pub fits : Fits l store n w es d
  pub whole : {r : Cursor} {new : List ℕ} → AppendDone l store n w es d r new → AppendDone l store n to all d₀ r new

module _
    {l : Layout} {store : Bool} {n : ℕ} {to : Cursor} {all : List Entry} {d₀ : List ℕ} {w : Cursor} {es : List Entry}
    {d : List ℕ}
    (a : Left l store n to all d₀ w es d)
  where
    -- the next ones
    module _ (this rest : List Entry) (split : es ≡ this ++ rest) where
      pub next_fits : Fits l store n w this d
      next_fits = fits_first this rest (rw split at a.fits)

      pub rest_left : {r : Cursor} {new : List ℕ} → AppendDone l store n w this d r new
          → Left l store n to all d₀ r rest new
      rest_left p =
          record {
            same_length = passed_length p ∙ a.same_length;
            fits = fits_rest p.went (passed_length p) rest (rw split at a.fits);
            whole = λ q. a.whole (rw split (passed_append p q));
          }

    -- none is left
    pub all_passed : es ≡ [] → AppendDone l store n to all d₀ w d
    all_passed none = a.whole (rw none (passed_none a.fits.small))

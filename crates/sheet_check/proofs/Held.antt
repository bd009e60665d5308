-- What a caller of the check knows, and what a sheet that was checked has.
use Prim.Native.Nat.{◌≤◌, ℕ}
use mathlib.Core.Path.{◌∙◌, ◌≡◌, ap, refl, sym}
use mathlib.Core.Bool.{false≢true, true}
use mathlib.Core.List.{List}
use mathlib.Core.Option as maybe
use Rattle.std.specs.Prelude.{Option, Some}
use lib.ListN.{drop}
use native.Mathlib.Omega.{arith}
use Rattle.octets.specs.Octets.{begins}
use Rattle.entries.specs.Entries.{Entry, max_entries, valid}
use Rattle.entries.proofs.Valid.{valid_of}
use Rattle.answer.specs.Answers.{entries_bytes}
use Rattle.frame.specs.Frame.{entries_of, is_read}
use Rattle.frame_code.specs.Image.{image_as}
use Rattle.frame_code.proofs.Held.{image_held}
use Rattle.sheet_check.specs.Held.{HeldSheet}
use Rattle.sheet.specs.Sheet.{in_sheet, read_sheet}
use Rattle.sheet_check.proofs.Accepts.{sheet_rows}
use Rattle.sheet.proofs.Reading.{sheet_exact}

-- of the answer r: first what `check` ensures of it, then what the match says
pub checked-held : (buf : List ℕ) {n : ℕ} {r : Option ℕ} → r ≡ image_as (read_sheet buf) → r ≡ Some n → HeldSheet buf n
checked-held buf e m = let h = image_held (read_sheet buf) e m in record { is_it = h.0; count = h.1 }

-- a buffer that is a sheet is read as its entries
sheet_read_lem : (buf : List ℕ) → is_read (read_sheet buf) ≡ true → read_sheet buf ≡ maybe.some (in_sheet buf)
sheet_read_lem buf h = go (read_sheet buf) refl
  where
    go : (o : maybe.Option (List Entry)) → read_sheet buf ≡ o → read_sheet buf ≡ maybe.some (entries_of o)
    go maybe.none e = absurd (false≢true (sym (ap is_read e) ∙ h))
    go (maybe.some es) e = e

-- a sheet that was checked: its entries are valid, and stand behind the frame
module _ {buf : List ℕ} {n : ℕ} (h : HeldSheet buf n) where
  pub sheet_ok : valid (in_sheet buf) ≡ true
  sheet_ok = (sheet_exact.sound (in_sheet buf) buf (sheet_read_lem buf h.is_it)).0

  pub sheet_few : n ≤ max_entries
  sheet_few = omega (arith, h.count, (valid_of (in_sheet buf) sheet_ok).few)

  pub sheet_stands : begins (entries_bytes (in_sheet buf)) (drop 7 buf) ≡ true
  sheet_stands = (sheet_rows buf (in_sheet buf) (sheet_read_lem buf h.is_it)).stands

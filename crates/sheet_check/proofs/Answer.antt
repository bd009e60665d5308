-- The answer of the check: None where a test of `sheet_checks` fails, the number of entries where none does.
use Prim.Native.Nat.{ℕ}
use mathlib.Core.Path.{◌∙◌, ◌≡◌}
use mathlib.Core.Bool.{false}
use mathlib.Core.List.{List, []}
use mathlib.Core.Option as maybe
use Rattle.std.specs.Prelude.{Option, Some}
use borrow.Author.Tests.{eq-eqb}
use Rattle.octets.proofs.Numbers.{Bytes}
use Rattle.frame_laws.specs.Test.{ends_at}
use Rattle.frame_code.specs.Image.{ended_as, image_as}
use Rattle.frame_code.proofs.Checked.{Checkable, Framed, accepted, told_end}
use Rattle.sheet_check.specs.Check.{rows_end, sheet_body_is, sheet_checks}
use Rattle.sheet.specs.Sheet.{read_sheet}
use Rattle.sheet_check.proofs.Accepts.{sheet_check_exact, sheet_count}

pub sheet_format : Checkable 0x11 sheet_body_is read_sheet
unfolding sheet_checks
sheet_format = record { exact = sheet_check_exact; count = sheet_count }

-- the body's test is the walk's answer
module _ {buf : List ℕ} {n total : ℕ} (f : Framed 0x11 buf n total) where
  abbrev pub rows_walk : maybe.Option ℕ
  rows_walk = rows_end n [] 7 buf

  rest : sheet_body_is buf ≡ ends_at total rows_walk
  rest = rw (f.whole, f.count)

  pub must_end : ends_at total rows_walk ≡ false → sheet_body_is buf ≡ false
  must_end t = rest ∙ t

  pub is_sheet :
      Bytes buf → {e : Option ℕ} → e ≡ ended_as rows_walk → {end : ℕ} → e ≡ Some end → end ≡ total
      → Some n ≡ image_as (read_sheet buf)
  is_sheet b a {end} m q =
      accepted sheet_format buf b f (rest ∙ told_end total rows_walk a m ∙ eq-eqb end total q)

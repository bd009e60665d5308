-- A sheet never exceeds 54,279 bytes: the first seven, and 53 for each of 1,024 entries.
use Prim.Native.Nat.{◌≤◌}
use mathlib.Core.Path.{◌≡◌}
use mathlib.Core.Bool.{true}
use mathlib.Core.List.{List}
use lib.ListN.{length}
use native.Mathlib.Omega.{arith}
use Rattle.entries.specs.Entries.{Entry, valid}
use Rattle.entries.proofs.Valid.{valid_of}
use Rattle.answer.specs.Answers.{entries_bytes}
use Rattle.answer.proofs.Entries.{entries_bytes_most}
use Rattle.frame.proofs.Frame.{framed-length}
use Rattle.sheet.specs.Sheet.{sheet_image}

pub sheet_length_lem : (es : List Entry) → valid es ≡ true → length (sheet_image es) ≤ 54279
unfolding sheet_image
sheet_length_lem es h =
    let v = valid_of es h in
    rw (framed-length 0x11 (length es) (entries_bytes es)) (omega (arith, v.few, entries_bytes_most es v.allowed))

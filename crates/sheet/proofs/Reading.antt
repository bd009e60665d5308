-- A sheet is read exactly when its front is the image of a valid list.
use Prim.Native.Nat.{◌^◌, suc, zero, ℕ}
use mathlib.Core.Path.{◌≡◌, ap, refl}
use mathlib.Core.Bool.{true}
use mathlib.Core.List.{List, [], ◌++◌, ◌∷◌, append_assoc}
use lib.ListN.{drop, length}
use lib.Seq.{drop-append_seam, drop_at, take-append_seam, take_at}
use native.Mathlib.Omega.{arith}
use borrow.Author.Tests.{ltb-true}
use Rattle.octets.specs.Lists.{all, concat_map}
use Rattle.octets.specs.Octets.{be}
use Rattle.octets.proofs.Coding.{from_be-be, length-be}
use Rattle.octets.proofs.Tests.{and_true_both}
use Rattle.entries.specs.Entries.{Entry}
use Rattle.entries.specs.Names.{is_score}
use Rattle.entries.proofs.Valid.{Valid}
use Rattle.answer.specs.Answers.{entries_bytes, entry_bytes}
use Rattle.frame.specs.Frame.{Exact}
use Rattle.frame.proofs.Frame.{exact, framed_body, framed-count}
use Rattle.sheet.specs.Sheet.{behind_name, read_sheet, sheet_entries, sheet_from, sheet_image}

-- one entry, and what follows it
entry_bytes_split : (e : Entry) (r : List ℕ) → entry_bytes e ++ r ≡ length e.name ∷ (e.name ++ (be 4 e.score ++ r))
unfolding entry_bytes
entry_bytes_split e r = simp append_assoc

pub length-sheet_from : (n : ℕ) (bs : List ℕ) → length (sheet_from n bs) ≡ n
length-sheet_from zero bs = refl
length-sheet_from (suc n) bs = ap suc (length-sheet_from n (drop 4 (behind_name bs)))

pub sheet_from_of : (es : List Entry) (rest : List ℕ) → all (λ e. is_score e.score) es ≡ true
    → sheet_from (length es) (entries_bytes es ++ rest) ≡ es
unfolding entries_bytes is_score
sheet_from_of [] rest h = refl
sheet_from_of (e ∷ es) rest h =
    let q = and_true_both (is_score e.score) (all (λ f. is_score f.score) es) h in
    let r : List ℕ = concat_map entry_bytes es ++ rest in
    rw (
      append_assoc (entry_bytes e) (concat_map entry_bytes es) rest,
      entry_bytes_split e r,
      take-append_seam e.name (be 4 e.score ++ r),
      drop-append_seam e.name (be 4 e.score ++ r),
      take_at (be 4 e.score) r 4 (length-be 4 e.score),
      drop_at (be 4 e.score) r 4 (length-be 4 e.score),
      from_be-be 4 e.score (ltb-true e.score (2 ^ 32) q.0),
      sheet_from_of es rest q.1,
    )
    refl

sheet_entries_of : (es : List Entry) (rest : List ℕ) → Valid es → sheet_entries (sheet_image es ++ rest) ≡ es
unfolding sheet_entries sheet_image
sheet_entries_of es rest v =
    rw (
      framed-count 0x11 (length es) (entries_bytes es) rest (omega (arith, v.few)),
      framed_body 0x11 (length es) (entries_bytes es) rest,
    )
    (sheet_from_of es rest v.fits)

pub sheet_exact : Exact read_sheet sheet_image
unfolding read_sheet
sheet_exact = exact sheet_entries sheet_image sheet_entries_of

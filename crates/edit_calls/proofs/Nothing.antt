-- "Empty": the book of no entries, refused or written.
use Prim.Native.Nat.{◌<◌, ◌≤◌, ℕ}
use mathlib.Core.Path.{◌∙◌, ◌≡◌, ap, refl, sym}
use mathlib.Core.List.{List, []}
use lib.ListN.{length}
use Rattle.book_laws.specs.declared.Cursor.{Cursor}
use Rattle.book.specs.Book.{records_at, today}
use Rattle.book_write.specs.Calls.{Started}
use Rattle.book_write.specs.Writing.{finished}
use Rattle.book_write.proofs.Calls.{finish_whole, start_partial}
use Rattle.edit.specs.Edits.{empty_book}
use Rattle.edit.proofs.Empty.{empty_given, empty_length, empty_refused, empty_valid}
use Rattle.answer.specs.Reports.{Answered}
use Rattle.answer.specs.declared.Refusal.TheVariants as refusal
use Rattle.std.specs.Prelude.{Err, Ok}

pub nothing-refused : (dst : List ℕ) → length dst < 7 → Answered (empty_book dst) (Err refusal.TooShort) dst
nothing-refused dst h = let e = empty_refused dst h in
    record { answer = ap (λ o. o.answer) (sym e); left = ap (λ o. o.dest) (sym e) }

pub nothing_written : (dst left : List ℕ) → 7 ≤ length dst → left ≡ finished today 7 0 dst
    → Answered (empty_book dst) (Ok (record { entries = 0; bytes = 7 })) left
nothing_written dst left h p =
    let e = empty_given dst h in
    let c : Cursor = record { at = records_at today 0; index = 0; name = []; len = 0 } in
    let s : Started today 0 c = record { at = refl; index = refl; len = refl } in
    let q = start_partial today [] dst refl (rw empty_length h) s in
    record {
      answer = ap (λ o. o.answer) (sym e);
      left = p ∙ finish_whole q refl empty_valid refl (sym empty_length) ∙ ap (λ o. o.dest) (sym e);
    }

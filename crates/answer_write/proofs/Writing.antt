-- One answer entry or a whole book, written or refused; an outcome in another's place.
use Rattle.std.specs.Prelude.{Err, Ok}
use Prim.Native.Nat.{◌+◌, ◌<◌, ◌≤◌, ℕ}
use mathlib.Core.Path.{◌∙◌, ◌≡◌}
use mathlib.Core.List.{List}
use lib.ListN.{length}
use lib.Seq.{sets}
use native.Mathlib.Omega.{arith}
use borrow.Author.Tests.{le-ltb, lt-ltb}
use Rattle.octets.proofs.Stores.{sets-overwrite}
use Rattle.entries.specs.Entries.{Entry}
use Rattle.answer.specs.Answers.{entry_bytes, writing, writing_image}
use Rattle.answer.proofs.Entries.{length-entry_bytes}
use Rattle.answer.specs.Reports.{Answered}
use Rattle.answer_write.specs.Entry.{one_entry}
use Rattle.answer.specs.declared.Refusal.TheVariants.{TooShort}

pub entry-refused : (e : Entry) (dst : List ℕ) → length dst < length e.name + 5
    → Answered (one_entry e dst) (Err TooShort) dst
unfolding writing_image writing
entry-refused e dst h =
    let l = length-entry_bytes e in
    let t = lt-ltb (length dst) (length (entry_bytes e)) (omega arith) in
    record { answer = rw t; left = rw t }

pub entry_written :
    (e : Entry) (dst : List ℕ) (n : ℕ) → n ≡ length e.name + 5 → n ≤ length dst → (left : List ℕ)
    → left ≡ sets dst 0 (entry_bytes e)
    → Answered (one_entry e dst) (Ok (record { entries = 1; bytes = n })) left
unfolding writing_image writing
entry_written e dst n q h left p =
    let l = length-entry_bytes e in
    let k : n ≡ length (entry_bytes e) = omega arith in
    let t = le-ltb (length dst) (length (entry_bytes e)) (omega arith) in
    record { answer = rw (t, k); left = rw t (p ∙ sets-overwrite dst (entry_bytes e) (omega arith)) }

-- The three stores of an answer entry, one behind the other, are its bytes stored at once.
use Prim.Native.Nat.{◌+◌, suc, ℕ}
use mathlib.Core.Path.{◌≡◌}
use mathlib.Core.List.{List}
use lib.ListN.{length, set}
use lib.Seq.{sets}
use native.Mathlib.Numerals.{add-one}
use Rattle.octets.specs.Octets.{be}
use Rattle.octets.proofs.Stores.{sets-append}
use Rattle.entries.specs.Entries.{entry}
use Rattle.answer.specs.Answers.{entry_bytes}

pub entry_stores :
    (d w : List ℕ) (at s : ℕ)
    → sets (sets (set d at (length w)) (at + 1) w) (at + 1 + length w) (be 4 s) ≡ sets d at (entry_bytes (entry w s))
unfolding entry_bytes
entry_stores d w at s = rw add-one (sets-append (set d at (length w)) w (be 4 s) (suc at))

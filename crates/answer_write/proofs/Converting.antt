-- Calls that write one image from another: refused, or written and reported.
use Rattle.std.specs.Prelude.{Err, Ok}
use Prim.Native.Nat.{◌<◌, ◌≤◌, ℕ}
use mathlib.Core.Path.{◌≡◌}
use mathlib.Core.Bool.{false, true}
use mathlib.Core.List.{List}
use mathlib.Core.Option.{Option}
use lib.ListN.{length}
use native.Mathlib.Omega.{arith}
use borrow.Author.Tests.{le-ltb, lt-ltb}
use Rattle.octets.specs.Octets.{overwrite}
use Rattle.entries.specs.Entries.{Entry}
use Rattle.answer.specs.Answers.{converting, writing, writing_image}
use Rattle.frame.specs.Frame.{entries_of, is_read}
use Rattle.answer.specs.Reports.{Answered}
use Rattle.answer.specs.declared.Refusal.TheVariants.{NotLaidOut, TooShort}

module _ (read : List ℕ → Option (List Entry)) (image : List Entry → List ℕ) (src dst : List ℕ) where
  pub not_read : is_read (read src) ≡ false → Answered (converting read image src dst) (Err NotLaidOut) dst
  unfolding writing_image writing
  not_read h = record { answer = rw h; left = rw h }

  module _ (h : is_read (read src) ≡ true) where
    pub no_room_lem : length dst < length (image (entries_of (read src)))
        → Answered (converting read image src dst) (Err TooShort) dst
    unfolding writing_image writing
    no_room_lem l =
        let t = lt-ltb (length dst) (length (image (entries_of (read src)))) l in
        record { answer = rw (h, t); left = rw (h, t) }

    pub whole :
        {n total : ℕ} (left : List ℕ) → n ≡ length (entries_of (read src))
        → total ≡ length (image (entries_of (read src))) → total ≤ length dst
        → left ≡ overwrite dst (image (entries_of (read src)))
        → Answered (converting read image src dst) (Ok (record { entries = n; bytes = total })) left
    unfolding writing_image writing
    whole left m t l e =
        let u = le-ltb (length dst) (length (image (entries_of (read src)))) (omega arith) in
        record { answer = rw (h, u, m, t); left = rw (h, u) e }

-- A call that writes one image from another: what it writes, and back again.
use Prim.Native.Nat.{◌≤◌, ℕ}
use mathlib.Core.Path.{◌≡◌}
use mathlib.Core.List.{List}
use mathlib.Core.Option.{Option, some}
use lib.ListN.{drop, length, take}
use borrow.Author.Tests.{le-ltb}
use Rattle.octets.specs.Octets.{overwrite}
use Rattle.octets.proofs.Order.{front_of_lem}
use Rattle.entries.specs.Entries.{Entry}
use Rattle.answer.specs.Answers.{converting, writing, writing_image}
use Rattle.frame.specs.Frame.{Exact}
use Rattle.frame.proofs.Frame.{read_of}

pub converted :
    (read : List ℕ → Option (List Entry)) (image : List Entry → List ℕ) (src dst : List ℕ) (es : List Entry)
    → read src ≡ some es → length (image es) ≤ length dst
    → (converting read image src dst).dest ≡ overwrite dst (image es)
unfolding writing_image writing
converted read image src dst es r h = rw (r, le-ltb (length dst) (length (image es)) h)

module _
    (read : List ℕ → Option (List Entry)) (image : List Entry → List ℕ)
    (read' : List ℕ → Option (List Entry)) (image' : List Entry → List ℕ)
    (x : Exact read image) (x' : Exact read' image')
  where
    -- there and back gives the bytes of the source
    pub round_trip_lem :
        (src d₁ d₂ : List ℕ) (es : List Entry) → read src ≡ some es
        → length (image' es) ≤ length d₁ → length (image es) ≤ length d₂
        → (converting read' image (converting read image' src d₁).dest d₂).dest ≡ overwrite d₂
        (take (length (image es)) src)
    round_trip_lem src d₁ d₂ es r h k =
        let s = x.sound es src r in
        let front : take (length (image es)) src ≡ image es = front_of_lem (image es) src s.1 in
        rw (converted read image' src d₁ es r h, front)
        (converted read' image (overwrite d₁ (image' es)) d₂ es
        (read_of read' image' x' es (drop (length (image' es)) d₁) s.0) k)

-- What books, sheets and tries have in common: the first seven bytes, and when an image is read.
use Rattle.std.specs.Prelude.{◌+◌, ℕ, ◌≡◌, Bool, ◌&&◌, false, true, List, [], ◌++◌, ◌∷◌, drop, length, take}
use Rattle.std.proofs.Math.Option.{Option, none, some}
use Rattle.octets.specs.Lists.{if◌then◌otherwise◌}
use Rattle.octets.specs.Octets.{be, begins, from_be}
use Rattle.entries.specs.Entries.{Entry, valid}

-- version, total length in 4 bytes, n in 2, and what follows
unfoldable pub framed : ℕ → ℕ → List ℕ → List ℕ
framed version n body = version ∷ be 4 (7 + length body) ++ (be 2 n ++ body)

-- what bytes 5 and 6 say
unfoldable pub count_of : List ℕ → ℕ
count_of buf = from_be (take 2 (drop 5 buf))

-- A buffer is read exactly when the image of a valid list of entries stands at its front. The entries that it would say
-- (`decode`, which looks at no more than it needs) are written again (`encode`) and compared with the front; later
-- bytes are not read.
unfoldable pub read_as : (List ℕ → List Entry) → (List Entry → List ℕ) → List ℕ → Option (List Entry)
read_as decode encode buf =
    if valid (decode buf) && begins (encode (decode buf)) buf then some (decode buf) otherwise none

-- What a format promises of its reading and its images, whatever bytes stand behind them.
pub record Exact (read : List ℕ → Option (List Entry)) (image : List Entry → List ℕ) : Type 0 where
  -- what is read is a valid list whose image stands at the front
  pub sound :
      (es : List Entry) (buf : List ℕ) → read buf ≡ some es → (valid es ≡ true) × (begins (image es) buf ≡ true)
  -- and every such buffer is read so
  pub complete :
      (es : List Entry) (buf : List ℕ) → valid es ≡ true → begins (image es) buf ≡ true → read buf ≡ some es
  -- no other valid list has its image there
  pub unique :
      (es fs : List Entry) (buf : List ℕ) → valid es ≡ true → valid fs ≡ true → begins (image es) buf ≡ true
      → begins (image fs) buf ≡ true → es ≡ fs

-- a reading's entries, and whether there is one
abbrev pub is_read : Option (List Entry) → Bool
is_read none = false
is_read (some es) = true

abbrev pub entries_of : Option (List Entry) → List Entry
entries_of none = []
entries_of (some es) = es

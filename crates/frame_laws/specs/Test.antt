use Rattle.std.specs.Prelude.{ℕ, Bool, ◌&&◌, false, List, eqb, leb, get_or, length}
use Rattle.std.proofs.Math.Option.{Option, none, some}
use Rattle.octets.specs.Octets.{number_at}
use Rattle.entries.specs.Entries.{max_entries}

-- the tests of the first seven bytes: there, the version, at most 1,024 entries, not cut off by the buffer
unfoldable pub frame_is : ℕ → List ℕ → Bool
frame_is version buf =
    leb 7 (length buf)
    && (eqb (get_or buf 0 0) version && (leb (number_at 2 buf 5) max_entries && leb (number_at 4 buf 1) (length buf)))

-- do the records end at the total length?
abbrev pub ends_at : ℕ → Option ℕ → Bool
ends_at total none = false
ends_at total (some end) = eqb end total

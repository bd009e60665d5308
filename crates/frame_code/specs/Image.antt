-- What a check of a book, a sheet or a trie answers, and what the test of its first seven bytes does.
use Rattle.std.specs.Prelude.{ℕ, List, None, Option, Some, length}
use Rattle.std.proofs.Math.Option as maybe
use Rattle.octets.specs.Lists.{if◌then◌otherwise◌}
use Rattle.octets.specs.Octets.{number_at}
use Rattle.entries.specs.Entries.{Entry}
use Rattle.frame_laws.specs.Test.{frame_is}
use Rattle.frame_code.specs.declared.Frame.{Frame}

-- the check: the number of entries of the image that is read
abbrev pub image_as : maybe.Option (List Entry) → Option ℕ
image_as maybe.none = None
image_as (maybe.some es) = Some (length es)

-- the walk over the records: where they end
abbrev pub ended_as : maybe.Option ℕ → Option ℕ
ended_as maybe.none = None
ended_as (maybe.some end) = Some end

-- the first seven bytes: the numbers that they say, where they pass their tests
abbrev pub frame_as : ℕ → List ℕ → Option Frame
frame_as version buf =
    if frame_is version buf
    then Some (record { entries = number_at 2 buf 5; total = number_at 4 buf 1 })
    otherwise None

-- The check of a sheet in one pass, in the order of the code. It is shown to accept exactly what `read_sheet` reads.
use Rattle.std.specs.Prelude.{◌+◌, suc, zero, ℕ, Bool, ◌&&◌, List, [], leb, drop, get_or, length, take}
use Rattle.std.proofs.Math.Option.{Option, none, some}
use Rattle.octets.specs.Lists.{if◌then◌otherwise◌}
use Rattle.octets.specs.Octets.{below, number_at}
use Rattle.entries.specs.Names.{is_name}
use Rattle.frame_laws.specs.Test.{ends_at, frame_is}

-- the name of the entry at the front of bs
abbrev pub row_name : List ℕ → List ℕ
row_name bs = take (get_or bs 0 0) (drop 1 bs)

-- its bytes: length byte, name, score
abbrev pub row_length : List ℕ → ℕ
row_length bs = 5 + get_or bs 0 0

-- is it one of a sheet, behind the name prev: all its bytes there, its name allowed and above prev?
unfoldable pub row_is : List ℕ → List ℕ → Bool
row_is prev bs = leb (row_length bs) (length bs) && (is_name (row_name bs) && below prev (row_name bs))

-- m entries, the first at index `at` and behind the name prev: where they end, or none
abbrev pub rows_end : ℕ → List ℕ → ℕ → List ℕ → Option ℕ
rows_end zero prev at buf = some at
rows_end (suc m) prev at buf =
    if row_is prev (drop at buf) then rows_end m (row_name (drop at buf)) (at + row_length (drop at buf)) buf otherwise none

-- behind the frame: the entries up to the total length
abbrev pub sheet_body_is : List ℕ → Bool
sheet_body_is buf = ends_at (number_at 4 buf 1) (rows_end (number_at 2 buf 5) [] 7 buf)

unfoldable pub sheet_checks : List ℕ → Bool
sheet_checks buf = frame_is 0x11 buf && sheet_body_is buf

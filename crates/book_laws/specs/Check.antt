-- The check of a book in one pass, part by part, in the order of the code, for every layout. It is shown to accept
-- exactly what `read_in` reads.
use Rattle.std.specs.Prelude.{◌*◌, ◌+◌, ◌-◌, ◌/◌, min, suc, zero, ℕ, Bool, ◌&&◌, true, List, [], eqb, leb, ltb, drop, length}
use Rattle.std.proofs.Math.Option.{Option, none, some}
use Rattle.octets.specs.Lists.{ceil, if◌then◌otherwise◌}
use Rattle.octets.specs.Octets.{number_at}
use Rattle.entries.specs.Entries.{at}
use Rattle.book.specs.Records.{bucket_size, head_at, record_length, record_name}
use Rattle.book_laws.specs.Cursor.{record_is}
use Rattle.book.specs.declared.Layout.{Layout}
use Rattle.book.specs.Book.{block_size, buckets, records_at}
use Rattle.frame_laws.specs.Test.{ends_at, frame_is}

-- where the score of position i stands, and in a book of n names the offset of bucket j, the first peak, the peak of
-- block j
abbrev pub score_start : ℕ → ℕ
score_start i = 7 + 4 * i

abbrev pub offset_start : ℕ → ℕ → ℕ
offset_start n j = 7 + 4 * n + 2 * j

abbrev pub peaks_start : Layout → ℕ → ℕ
peaks_start l n = offset_start n (buckets l.heads n)

abbrev pub peak_start : Layout → ℕ → ℕ → ℕ
peak_start l n j = peaks_start l n + 2 * j

-- what stands there
unfoldable pub score_at : List ℕ → ℕ → ℕ
score_at buf i = number_at 4 buf (score_start i)

abbrev pub offset_at : List ℕ → ℕ → ℕ → ℕ
offset_at buf n j = number_at 2 buf (offset_start n j)

abbrev pub peak_at : Layout → List ℕ → ℕ → ℕ → ℕ
peak_at l buf n j = number_at 2 buf (peak_start l n j)

-- a bucket's offset says where its head's record stands; another position has none
unfoldable pub offset_is : Layout → ℕ → ℕ → ℕ → List ℕ → Bool
offset_is l n i at buf = if head_at l.heads i then eqb (offset_at buf n (i / bucket_size)) at otherwise true

-- the records of m names, the first at position i and index `at` and behind the name prev: where they end, or none
abbrev pub records_end : Layout → ℕ → ℕ → ℕ → List ℕ → ℕ → List ℕ → Option ℕ
records_end l zero n i prev at buf = some at
records_end l (suc m) n i prev at buf =
    if offset_is l n i at buf && record_is l.heads i prev (drop at buf)
    then records_end l m n (suc i) (record_name l.heads i prev (drop at buf))
    (at + record_length l.heads i (drop at buf)) buf
    otherwise none

-- the better of two positions by score, the first at equal scores
abbrev pub better_of : List ℕ → ℕ → ℕ → ℕ
better_of buf b i = if ltb (score_at buf b) (score_at buf i) then i otherwise b

-- the best of position b and the m positions from i on, by score; the earlier one at equal scores
abbrev pub best_on : List ℕ → ℕ → ℕ → ℕ → ℕ
best_on buf b i zero = b
best_on buf b i (suc m) = best_on buf (better_of buf b i) (suc i) m

-- the best of the positions from i to before j
unfoldable pub best_between : List ℕ → ℕ → ℕ → ℕ
best_between buf i j = best_on buf i (suc i) (j - suc i)

-- where block j of n positions ends
abbrev pub block_end : ℕ → ℕ → ℕ
block_end n j = min n (block_size * j + block_size)

-- the peak of block j is its best position
abbrev pub peak_is : Layout → ℕ → ℕ → List ℕ → Bool
peak_is l n j buf = eqb (peak_at l buf n j) (best_between buf (block_size * j) (block_end n j))

-- the peaks of m blocks, from block j on
abbrev pub peaks_are : Layout → ℕ → ℕ → ℕ → List ℕ → Bool
peaks_are l zero n j buf = true
peaks_are l (suc m) n j buf = peak_is l n j buf && peaks_are l m n (suc j) buf

-- the tests behind the frame: room for scores, offsets and peaks, the records up to the total length, the peaks
abbrev pub body_is : Layout → List ℕ → Bool
body_is l buf =
    let n = number_at 2 buf 5 in
    leb (records_at l n) (length buf)
    && (ends_at (number_at 4 buf 1) (records_end l n n 0 [] (records_at l n) buf)
    && peaks_are l (ceil n block_size) n 0 buf)

unfoldable pub checks : Layout → List ℕ → Bool
checks l buf = frame_is l.version buf && body_is l buf

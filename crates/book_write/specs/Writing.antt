-- A book written into a buffer entry by entry, then its peaks and its frame, as functions on the buffer.
use Rattle.std.specs.Prelude.{◌*◌, ◌/◌, suc, zero, ℕ, List}
use Rattle.std.proofs.lemmas.List.Edits.{sets}
use Rattle.octets.specs.Lists.{ceil, if◌then◌otherwise◌}
use Rattle.octets.specs.Octets.{be}
use Rattle.entries.specs.Entries.{Entry}
use Rattle.book.specs.Records.{bucket_size, head_at, record_of}
use Rattle.book.specs.declared.Layout.{Layout}
use Rattle.book.specs.Book.{block_size}
use Rattle.book_laws.specs.Check.{best_between, block_end, offset_start, peak_start, score_start}
use Rattle.frame_code.specs.Stored.{put_frame}

-- the offset of a bucket, where its head is at position i and index `at`
unfoldable pub put_offset : Layout → ℕ → ℕ → ℕ → List ℕ → List ℕ
put_offset l n i at d = if head_at l.heads i then sets d (offset_start n (i / bucket_size)) (be 2 at) otherwise d

-- what stands in front of the records of an entry of the score s at position i of n, its record at index `at`
abbrev pub put_fields : Layout → ℕ → ℕ → ℕ → ℕ → List ℕ → List ℕ
put_fields l n i at s d = put_offset l n i at (sets d (score_start i) (be 4 s))

-- the entry, its record given as bytes
abbrev pub put_record : Layout → ℕ → ℕ → ℕ → List ℕ → ℕ → List ℕ → List ℕ
put_record l n i at bytes s d = sets (put_fields l n i at s d) at bytes

-- the entry at position i of n, its record at index `at` behind the name prev
unfoldable pub put_entry : Layout → ℕ → ℕ → List ℕ → ℕ → Entry → List ℕ → List ℕ
put_entry l n i prev at e d =
    sets (put_offset l n i at (sets d (score_start i) (be 4 e.score))) at (record_of l.heads i prev e.name)

-- the peak of block j, computed from the scores that stand in the buffer
abbrev pub put_peak : Layout → ℕ → ℕ → List ℕ → List ℕ
put_peak l n j d = sets d (peak_start l n j) (be 2 (best_between d (block_size * j) (block_end n j)))

-- the peaks of m blocks from block j on
abbrev pub put_peaks : Layout → ℕ → ℕ → ℕ → List ℕ → List ℕ
put_peaks l zero n j d = d
put_peaks l (suc m) n j d = put_peaks l m n (suc j) (put_peak l n j d)

-- what is left to do once all entries are put
unfoldable pub finished : Layout → ℕ → ℕ → List ℕ → List ℕ
finished l total n d = put_frame l.version total n (put_peaks l (ceil n block_size) n 0 d)

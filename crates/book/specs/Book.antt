-- The book image (document 01, "Book image"): written, and read.
use Rattle.std.specs.Prelude.{◌*◌, ◌+◌, suc, zero, ℕ, Bool, false, true, List, [], ◌++◌, ◌∷◌, drop, length, take}
use Rattle.std.proofs.Math.Option.{Option}
use Rattle.octets.specs.Lists.{ceil, concat_map, count_from}
use Rattle.octets.specs.Octets.{be, from_be}
use Rattle.entries.specs.Entries.{Entry, best, entry, names}
use Rattle.book.specs.Records.{bucket_size, names_from, records}
use Rattle.book.specs.declared.Layout.{Layout}
use Rattle.frame.specs.Frame.{count_of, entries_of, framed, is_read, read_as}
use Rattle.answer.specs.Answers.{WrittenCounts}

-- entries in a block that has a peak
abbrev pub block_size : ℕ
block_size = 16

-- how many bucket offsets a book of n names has: with heads one for each 8 names, the last bucket may be shorter
abbrev pub buckets : Bool → ℕ → ℕ
buckets true n = ceil n bucket_size
buckets false n = 0

-- the versions: 21 has buckets, with heads and offsets; 22 has none (document 02, request f)
abbrev pub layout21 : Layout
layout21 = record { version = 0x21; heads = true }

abbrev pub layout22 : Layout
layout22 = record { version = 0x22; heads = false }

-- the one that every call but the converter reads and writes
abbrev pub today : Layout
today = layout22

-- n scores, 4 bytes each, in name order
unfoldable pub scores : List Entry → List ℕ
scores es = concat_map (λ e. be 4 e.score) es

-- peaks, 2 bytes each: the position of the best-ranked entry in each block of 16
unfoldable pub peak : List Entry → ℕ → ℕ
peak es j = block_size * j + best (take block_size (drop (block_size * j) es))

unfoldable pub peaks : List Entry → List ℕ
peaks es = concat_map (λ j. be 2 (peak es j)) (count_from 0 (ceil (length es) block_size))

module _ (l : Layout) where
  -- where the records begin
  unfoldable pub records_at : ℕ → ℕ
  records_at n = 7 + 4 * n + 2 * buckets l.heads n + 2 * ceil n block_size

  -- where bucket j begins, from byte 0
  unfoldable pub offset : List Entry → ℕ → ℕ
  offset es j = records_at (length es) + length (records l.heads 0 [] (take (bucket_size * j) (names es)))

  -- offsets, 2 bytes each
  unfoldable pub offsets : List Entry → List ℕ
  offsets es = concat_map (λ j. be 2 (offset es j)) (count_from 0 (buckets l.heads (length es)))

  unfoldable pub image_in : List Entry → List ℕ
  image_in es =
      framed l.version (length es) (scores es ++ (offsets es ++ (peaks es ++ records l.heads 0 [] (names es))))

-- Reading: what a buffer's front says if it is an image. n, the scores and the records are looked at, and nothing else.
abbrev pub scores_from : ℕ → List ℕ → List ℕ
scores_from zero bs = []
scores_from (suc n) bs = from_be (take 4 bs) ∷ scores_from n (drop 4 bs)

abbrev pub entries_from : List (List ℕ) → List ℕ → List Entry
entries_from [] ss = []
entries_from (w ∷ ws) [] = []
entries_from (w ∷ ws) (s ∷ ss) = entry w s ∷ entries_from ws ss

module _ (l : Layout) where
  unfoldable pub entries_in : List ℕ → List Entry
  entries_in buf =
      entries_from (names_from l.heads (count_of buf) 0 [] (drop (records_at l (count_of buf)) buf))
      (scores_from (count_of buf) (drop 7 buf))

  unfoldable pub read_in : List ℕ → Option (List Entry)
  read_in buf = read_as entries_in (image_in l) buf

  -- is a book laid out so at the front of the buffer, and its entries
  abbrev pub is_book_in : List ℕ → Bool
  is_book_in buf = is_read (read_in buf)

  abbrev pub in_book_in : List ℕ → List Entry
  in_book_in buf = entries_of (read_in buf)

-- the book of today
abbrev pub book_image : List Entry → List ℕ
book_image es = image_in today es

abbrev pub read_book : List ℕ → Option (List Entry)
read_book buf = read_in today buf

abbrev pub is_book : List ℕ → Bool
is_book buf = is_book_in today buf

abbrev pub in_book : List ℕ → List Entry
in_book buf = in_book_in today buf

-- what is reported of the book of these entries: how many they are, and the length of their image
abbrev pub reported : List Entry → WrittenCounts
reported es = record { entries = length es; bytes = length (book_image es) }

-- Worked cases of the book image and of its reading: one table, one proposition. The cases that document 01 marks P are
-- in the table of the crate `ledger`.
use Rattle.std.specs.Prelude.{◌+◌, ℕ, ◌≡◌, refl, List, [], ◌++◌, ◌∷◌, drop, length, replicate, take}
use Rattle.octets.specs.Octets.{be, from_be}
use Rattle.octets.specs.Table.{Row, ◌gives◌, failing}
use Rattle.octets.specs.Text.{text}
use Rattle.entries.specs.Entries.{Entry, entry, valid}
use Rattle.entries.specs.Names.{allowed_bytes, is_name, is_prefix, is_score, micro, ohm}
use Rattle.book.specs.Records.{record_length, record_name, record_of}
use Rattle.book.specs.Book.{book_image, entries_in, image_in, offset, offsets, peak, peaks, read_book, read_in}
use Rattle.book.specs.Book.{records_at, scores}
use Rattle.frame.specs.Frame.{count_of, framed, read_as}
use Rattle.book.specs.Shown.{E, P1, P3, changed, crowd, full_name, half_name, letters, listed, seventeen}
use Rattle.book.specs.Shown.{seventeen_book, shown_read, signed, signed_book, spare, µF}

-- 18 names: d and f tie for the best of block 0, and r is the best of block 1
abbrev eighteen : List Entry
eighteen = letters 0x61 (0 ∷ 1 ∷ 2 ∷ 5 ∷ 0 ∷ 5 ∷ replicate 10 0 ++ (1 ∷ 2 ∷ []))

abbrev images : List Row
images =
    -- no entries; E
    (book_image [] gives P1)
    ∷ (book_image E gives P3)
    -- 17 names
    ∷ (book_image seventeen gives seventeen_book)
    -- the peaks of 18 names, behind 18 scores: positions in the book, not in the block
    ∷ (take 4 (drop 79 (book_image eighteen)) gives (0x00 ∷ 3 ∷ 0x00 ∷ 17 ∷ []))
    -- a block has 16 names
    ∷ (length (book_image (letters 0x61 (replicate 9 0))) ∷ [] gives (72 ∷ []))
    ∷ (length (book_image (letters 0x61 (replicate 16 0))) ∷ [] gives (121 ∷ []))
    ∷ (length (book_image (letters 0x61 (replicate 17 0))) ∷ [] gives (130 ∷ []))
    -- a score has 4 bytes, the highest first
    ∷ (book_image (entry (text "a") 16909060 ∷ [])
    gives (0x22 ∷ 0x00 ∷ 0x00 ∷ 0x00 ∷ 16 ∷ 0x00 ∷ 1 ∷ 0x01 ∷ 0x02 ∷ 0x03 ∷ 0x04 ∷ 0x00 ∷ 0 ∷ 0 ∷ 1 ∷ 0x61 ∷ []))
    ∷ (take 4 (drop 7 (book_image (entry (text "a") 4294967295 ∷ []))) gives (0xFF ∷ 0xFF ∷ 0xFF ∷ 0xFF ∷ []))
    -- µ and Ω
    ∷ (book_image signed gives signed_book)
    ∷ []

-- the book of two names of score 0, of which the second is a record of its own making; for less than 256 bytes
abbrev two_names : List ℕ → List ℕ → List ℕ
two_names first second =
    0x22 ∷ 0x00 ∷ 0x00 ∷ 0x00 ∷ (19 + length first + length second) ∷ 0x00 ∷ 0x02 ∷ replicate 10 0x00
    ++ (0 ∷ length first ∷ first ++ second)

-- not read: []
abbrev readings : List Row
readings =
    -- bytes behind the image are not read
    (shown_read (read_book (P1 ++ spare 9)) gives listed [])
    ∷ (shown_read (read_book (P3 ++ spare 3)) gives listed E)
    ∷ (shown_read (read_book seventeen_book) gives listed seventeen)
    -- 1,025 entries
    ∷ (shown_read (read_book (book_image (crowd 1025))) gives [])
    -- cut off by its buffer
    ∷ (shown_read (read_book []) gives [])
    ∷ (shown_read (read_book (take 6 P1)) gives [])
    ∷ (shown_read (read_book (take 42 P3)) gives [])
    -- another version
    ∷ (shown_read (read_book (changed P3 0 (0x21 ∷ []))) gives [])
    ∷ (shown_read (read_book (changed P3 0 (0x23 ∷ []))) gives [])
    -- the total length one too small, one too large
    ∷ (shown_read (read_book (changed P3 4 (0x2A ∷ []))) gives [])
    ∷ (shown_read (read_book (changed P3 4 (0x2C ∷ []) ++ spare 1)) gives [])
    -- n one too small, one too large
    ∷ (shown_read (read_book (changed P3 6 (3 ∷ []))) gives [])
    ∷ (shown_read (read_book (changed P3 6 (5 ∷ []))) gives [])
    -- a gap of one byte before the records; a first record without its common byte, and one whose common byte is not 0
    ∷ (shown_read (read_book (changed (take 25 P3) 4 (0x2C ∷ []) ++ (0x00 ∷ drop 25 P3))) gives [])
    ∷ (shown_read (read_book (changed (take 25 P3) 4 (0x2A ∷ []) ++ drop 26 P3)) gives [])
    ∷ (shown_read (read_book (changed P3 25 (1 ∷ []))) gives [])
    -- a peak that is not the best; a peak kept after its score fell from 12 to 9, and the book with the right one
    ∷ (shown_read (read_book (changed P3 24 (1 ∷ []))) gives [])
    ∷ (shown_read (read_book (changed P3 22 (9 ∷ []))) gives [])
    ∷ (shown_read (read_book (changed (changed P3 22 (9 ∷ [])) 24 (1 ∷ [])))
    gives listed (entry (text "ac") 5 ∷ entry (text "rc") 9 ∷ entry (text "rc step") 9 ∷ entry (text "rl") 9 ∷ []))
    -- "rc step" with common byte 1 behind "rc": smaller than the longest
    ∷ (shown_read (read_book (changed (take 33 P3) 4 (0x2C ∷ []) ++ (1 ∷ 6 ∷ text "c step" ++ (1 ∷ 1 ∷ text "l"))))
    gives [])
    -- the last name equal to the one before; before it in name order
    ∷ (shown_read (read_book (changed (take 40 P3) 4 (0x2A ∷ []) ++ (7 ∷ 0 ∷ []))) gives [])
    ∷ (shown_read (read_book (changed P3 42 (text "b"))) gives [])
    -- the last name with byte 7E, then 7F
    ∷ (shown_read (read_book (changed P3 42 (0x7E ∷ [])))
    gives listed (entry (text "ac") 5 ∷ entry (text "rc") 9 ∷ entry (text "rc step") 9 ∷ entry (text "r~") 12 ∷ []))
    ∷ (shown_read (read_book (changed P3 42 (0x7F ∷ []))) gives [])
    -- µ and Ω; a lone half at the end; the other half of another sign
    ∷ (shown_read (read_book (signed_book ++ spare 2)) gives listed signed)
    ∷ (shown_read (read_book (changed signed_book 45 (0x41 ∷ []))) gives [])
    ∷ (shown_read (read_book (changed signed_book 45 (0xB5 ∷ []))) gives [])
    ∷ (shown_read (read_book (changed signed_book 41 (0xC2 ∷ []))) gives [])
    -- 46 letters and a sign, 47 and a half
    ∷ (shown_read (read_book (book_image (entry full_name 1 ∷ []))) gives listed (entry full_name 1 ∷ []))
    ∷ (shown_read (read_book (book_image (entry half_name 1 ∷ []))) gives [])
    -- behind µ: µF and Ω; common bytes that end inside µ, with a rest that is a name by itself, and with the other half
    ∷ (shown_read (read_book (two_names micro (2 ∷ 1 ∷ text "F"))) gives listed (entry micro 0 ∷ entry µF 0 ∷ []))
    ∷ (shown_read (read_book (two_names micro (0 ∷ 2 ∷ ohm))) gives listed (entry micro 0 ∷ entry ohm 0 ∷ []))
    ∷ (shown_read (read_book (two_names micro (1 ∷ 2 ∷ micro))) gives [])
    ∷ (shown_read (read_book (two_names micro (1 ∷ 2 ∷ ohm))) gives [])
    ∷ (shown_read (read_book (two_names micro (1 ∷ 2 ∷ 0xB5 ∷ text "F"))) gives [])
    ∷ []

abbrev table : List Row
table = images ++ readings

worked : failing 0 table ≡ []
unfolding be from_be allowed_bytes is_prefix is_name is_score valid record_of record_name record_length framed count_of read_as
    scores peak peaks records_at offset offsets image_in entries_in read_in
worked = refl

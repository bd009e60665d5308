-- Worked cases of the converter: one table, one proposition. The marked cases stand in `Rattle.book.specs.Old` as 21
-- and in `Rattle.ledger.specs.Marked` as 22.
use Rattle.std.specs.Prelude.{ℕ, ◌≡◌, refl, List, [], ◌++◌, ◌∷◌, take}
use Rattle.octets.specs.Octets.{be, from_be}
use Rattle.octets.specs.Table.{Row, ◌gives◌, failing}
use Rattle.entries.specs.Entries.{valid}
use Rattle.entries.specs.Names.{allowed_bytes, is_name, is_prefix, is_score}
use Rattle.frame.specs.Frame.{count_of, framed, read_as}
use Rattle.answer.specs.Answers.{writing, writing_image}
use Rattle.book.specs.Records.{record_length, record_name, record_of}
use Rattle.book.specs.Book.{entries_in, image_in, offset, offsets, peak, peaks, read_in, records_at, scores}
use Rattle.book.specs.Old.{P10old, P1old, P3old, P9old, seventeen_old}
use Rattle.book.specs.Shown.{P1, P2, P3, changed, seventeen_book, shown_written, signed_book, spare}
use Rattle.ledger.specs.Marked.{P10book, P9book}
use Rattle.convert.specs.Convert.{convert_book}

-- names with µ and Ω in version 21: the bucket begins at 27, its head is 4.7 kΩ
abbrev signed_old : List ℕ
signed_old =
    0x21 ∷ 0x00 ∷ 0x00 ∷ 0x00 ∷ 0x2F ∷ 0x00 ∷ 0x04 ∷ 0x00 ∷ 0x00 ∷ 0x00 ∷ 0x07 ∷ 0x00 ∷ 0x00 ∷ 0x00 ∷ 0x04 ∷ 0x00
    ∷ 0x00 ∷ 0x00 ∷ 0x09 ∷ 0x00 ∷ 0x00 ∷ 0x00 ∷ 0x02 ∷ 0x00 ∷ 0x1B ∷ 0x00 ∷ 0x02 ∷ 0x07 ∷ 0x34 ∷ 0x2E ∷ 0x37 ∷ 0x20
    ∷ 0x6B ∷ 0xCE ∷ 0xA9 ∷ 0x00 ∷ 0x03 ∷ 0xC2 ∷ 0xB5 ∷ 0x41 ∷ 0x02 ∷ 0x01 ∷ 0x46 ∷ 0x00 ∷ 0x02 ∷ 0xCE ∷ 0xA9 ∷ []

-- a book converted into so many bytes, as numbers
abbrev moved : List ℕ → ℕ → List ℕ
moved book n = shown_written (convert_book book (spare n))

-- refused 1 with 60 bytes to write into
abbrev not_moved : List ℕ
not_moved = 1 ∷ 0 ∷ 0 ∷ spare 60

abbrev up : List Row
up =
    -- the marked cases, with bytes behind, into just the room needed, and into one byte less
    (moved (P1old ++ spare 2) 9 gives (0 ∷ 0 ∷ 7 ∷ P1 ++ spare 2))
    ∷ (moved P1old 6 gives (7 ∷ 0 ∷ 0 ∷ spare 6))
    ∷ (moved (P3old ++ spare 3) 46 gives (0 ∷ 4 ∷ 43 ∷ P3 ++ spare 3))
    ∷ (moved P3old 43 gives (0 ∷ 4 ∷ 43 ∷ P3))
    ∷ (moved P3old 42 gives (7 ∷ 0 ∷ 0 ∷ spare 42))
    ∷ (moved P9old 125 gives (0 ∷ 10 ∷ 125 ∷ P9book))
    ∷ (moved P9old 124 gives (7 ∷ 0 ∷ 0 ∷ spare 124))
    ∷ (moved P10old 118 gives (0 ∷ 9 ∷ 118 ∷ P10book))
    ∷ (moved P10old 117 gives (7 ∷ 0 ∷ 0 ∷ spare 117))
    -- 17 names: three buckets
    ∷ (moved seventeen_old 130 gives (0 ∷ 17 ∷ 130 ∷ seventeen_book))
    ∷ (moved seventeen_old 129 gives (7 ∷ 0 ∷ 0 ∷ spare 129))
    -- µ and Ω
    ∷ (moved signed_old 46 gives (0 ∷ 4 ∷ 46 ∷ signed_book))
    ∷ []

abbrev back : List Row
back =
    (moved (P1 ++ spare 2) 9 gives (0 ∷ 0 ∷ 7 ∷ P1old ++ spare 2))
    -- P3 needs a byte more, P10 49: into as many bytes as it has it is refused
    ∷ (moved (P3 ++ spare 3) 46 gives (0 ∷ 4 ∷ 44 ∷ P3old ++ spare 2))
    ∷ (moved P3 44 gives (0 ∷ 4 ∷ 44 ∷ P3old))
    ∷ (moved P3 43 gives (7 ∷ 0 ∷ 0 ∷ spare 43))
    ∷ (moved P9book 127 gives (0 ∷ 10 ∷ 127 ∷ P9old))
    ∷ (moved P9book 126 gives (7 ∷ 0 ∷ 0 ∷ spare 126))
    ∷ (moved P10book 167 gives (0 ∷ 9 ∷ 167 ∷ P10old))
    ∷ (moved P10book 166 gives (7 ∷ 0 ∷ 0 ∷ spare 166))
    ∷ (moved P10book 118 gives (7 ∷ 0 ∷ 0 ∷ spare 118))
    ∷ (moved seventeen_book 133 gives (0 ∷ 17 ∷ 133 ∷ seventeen_old))
    ∷ (moved seventeen_book 132 gives (7 ∷ 0 ∷ 0 ∷ spare 132))
    ∷ (moved signed_book 47 gives (0 ∷ 4 ∷ 47 ∷ signed_old))
    ∷ []

abbrev refusals : List Row
refusals =
    -- a damaged 21 is not tried as 22, nor refused 10: an offset, a peak, the total length wrong; cut off; byte 0 alone
    (moved (changed P3old 24 (0x1C ∷ [])) 60 gives not_moved)
    ∷ (moved (changed P3old 26 (1 ∷ [])) 60 gives not_moved)
    ∷ (moved (changed P3old 4 (0x2B ∷ [])) 60 gives not_moved)
    ∷ (moved (take 43 P3old) 60 gives not_moved)
    ∷ (moved (0x21 ∷ []) 60 gives not_moved)
    -- what is laid out as 22 behind a byte 0 of 21, and the other way round
    ∷ (moved (changed P3 0 (0x21 ∷ [])) 60 gives not_moved)
    ∷ (moved (changed P3old 0 (0x22 ∷ [])) 60 gives not_moved)
    -- a damaged 22
    ∷ (moved (changed P3 24 (1 ∷ [])) 60 gives not_moved)
    ∷ (moved (take 42 P3) 60 gives not_moved)
    ∷ (moved (0x22 ∷ []) 60 gives not_moved)
    -- another byte 0, a trie, an empty buffer
    ∷ (moved (changed P3 0 (0x23 ∷ [])) 60 gives not_moved)
    ∷ (moved (changed P3old 0 (0x20 ∷ [])) 60 gives not_moved)
    ∷ (moved P2 60 gives not_moved)
    ∷ (moved [] 60 gives not_moved)
    -- 1 before 7
    ∷ (moved (take 43 P3old) 0 gives (1 ∷ 0 ∷ 0 ∷ []))
    ∷ (moved [] 0 gives (1 ∷ 0 ∷ 0 ∷ []))
    ∷ []

abbrev table : List Row
table = up ++ back ++ refusals

pub worked : failing 0 table ≡ []
unfolding be from_be allowed_bytes is_prefix is_name is_score valid record_of record_name record_length framed count_of read_as
    scores peak peaks records_at offset offsets image_in entries_in read_in writing writing_image convert_book
worked = refl

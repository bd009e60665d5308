-- The marked book cases of document 01 as printed there, in version 21, with others that have several buckets: one
-- table,
-- one proposition.
use Rattle.std.specs.Prelude.{ℕ, ◌≡◌, refl, List, [], ◌++◌, ◌∷◌, drop, length, replicate, take}
use Rattle.octets.specs.Lists.{concat_map, count_from}
use Rattle.octets.specs.Octets.{be, from_be}
use Rattle.octets.specs.Table.{Row, ◌gives◌, failing}
use Rattle.entries.specs.Entries.{valid}
use Rattle.entries.specs.Names.{allowed_bytes, is_name, is_prefix, is_score}
use Rattle.book.specs.Records.{record_length, record_name, record_of}
use Rattle.book.specs.Book.{entries_in, image_in, layout21, layout22, offset, offsets, peak, peaks, read_in}
use Rattle.book.specs.Book.{records_at, scores}
use Rattle.frame.specs.Frame.{count_of, framed, read_as}
use Rattle.book.specs.Shown.{E, P1, P10, P3, P9, changed, letters, listed, seventeen, shown_read, spare}

-- P1 and P3
abbrev pub P1old : List ℕ
P1old = 0x21 ∷ 0x00 ∷ 0x00 ∷ 0x00 ∷ 0x07 ∷ 0x00 ∷ 0x00 ∷ []

abbrev pub P3old : List ℕ
P3old =
    0x21 ∷ 0x00 ∷ 0x00 ∷ 0x00 ∷ 0x2C ∷ 0x00 ∷ 0x04 ∷ 0x00 ∷ 0x00 ∷ 0x00 ∷ 0x05 ∷ 0x00 ∷ 0x00 ∷ 0x00 ∷ 0x09 ∷ 0x00
    ∷ 0x00 ∷ 0x00 ∷ 0x09 ∷ 0x00 ∷ 0x00 ∷ 0x00 ∷ 0x0C ∷ 0x00 ∷ 0x1B ∷ 0x00 ∷ 0x03 ∷ 0x02 ∷ 0x61 ∷ 0x63 ∷ 0x00 ∷ 0x02
    ∷ 0x72 ∷ 0x63 ∷ 0x02 ∷ 0x05 ∷ 0x20 ∷ 0x73 ∷ 0x74 ∷ 0x65 ∷ 0x70 ∷ 0x01 ∷ 0x01 ∷ 0x6C ∷ []

-- P9: the 47 letters x are a bucket's head; P10: the 48 are
abbrev pub P9old : List ℕ
P9old =
    (0x21 ∷ 0x00 ∷ 0x00 ∷ 0x00 ∷ 127 ∷ 0x00 ∷ 10 ∷ replicate 40 0x00)
    ++ (0x00 ∷ 53 ∷ 0x00 ∷ 76 ∷ 0x00 ∷ 0 ∷ [])
    ++ (1 ∷ 0x31 ∷ concat_map (λ c. 0 ∷ 1 ∷ c ∷ []) (count_from 0x32 7))
    ++ (47 ∷ replicate 47 0x78)
    ++ (47 ∷ 1 ∷ 0x78 ∷ [])

abbrev pub P10old : List ℕ
P10old =
    (0x21 ∷ 0x00 ∷ 0x00 ∷ 0x00 ∷ 167 ∷ 0x00 ∷ 9 ∷ replicate 36 0x00)
    ++ (0x00 ∷ 49 ∷ 0x00 ∷ 118 ∷ 0x00 ∷ 0 ∷ [])
    ++ (1 ∷ 0x32 ∷ concat_map (λ c. 0 ∷ 1 ∷ c ∷ []) (count_from 0x33 6))
    ++ (0 ∷ 47 ∷ replicate 47 0x78)
    ++ (48 ∷ replicate 48 0x78)

-- 17 names: the scores; offsets 85, 108, 131; peaks 0, 16; the records, of which those of a, i and q are heads
abbrev pub seventeen_old : List ℕ
seventeen_old =
    (0x21 ∷ 0x00 ∷ 0x00 ∷ 0x00 ∷ 133 ∷ 0x00 ∷ 17 ∷ replicate 68 0x00)
    ++ (0x00 ∷ 85 ∷ 0x00 ∷ 108 ∷ 0x00 ∷ 131 ∷ 0x00 ∷ 0 ∷ 0x00 ∷ 16 ∷ [])
    ++ (1 ∷ 0x61 ∷ concat_map (λ c. 0 ∷ 1 ∷ c ∷ []) (count_from 0x62 7))
    ++ (1 ∷ 0x69 ∷ concat_map (λ c. 0 ∷ 1 ∷ c ∷ []) (count_from 0x6A 7))
    ++ (1 ∷ 0x71 ∷ [])

abbrev pub table : List Row
table =
    -- written
    (image_in layout21 [] gives P1old)
    ∷ (image_in layout21 E gives P3old)
    ∷ (image_in layout21 P9 gives P9old)
    ∷ (length P9old ∷ [] gives (127 ∷ []))
    ∷ (image_in layout21 P10 gives P10old)
    ∷ (length P10old ∷ [] gives (167 ∷ []))
    ∷ (image_in layout21 seventeen gives seventeen_old)
    -- a bucket has 8 names, a block 16
    ∷ (length (image_in layout21 (letters 0x61 (replicate 8 0))) ∷ [] gives (66 ∷ []))
    ∷ (length (image_in layout21 (letters 0x61 (replicate 9 0))) ∷ [] gives (74 ∷ []))
    ∷ (length (image_in layout21 (letters 0x61 (replicate 16 0))) ∷ [] gives (123 ∷ []))
    -- read, with bytes behind
    ∷ (shown_read (read_in layout21 (P1old ++ spare 2)) gives listed [])
    ∷ (shown_read (read_in layout21 (P3old ++ spare 3)) gives listed E)
    ∷ (shown_read (read_in layout21 seventeen_old) gives listed seventeen)
    -- an offset that is not its bucket's; a gap of one byte before the records
    ∷ (shown_read (read_in layout21 (changed P3old 24 (0x1C ∷ []))) gives [])
    ∷ (shown_read (read_in layout21 (changed (changed (take 27 P3old) 4 (0x2D ∷ [])) 24 (0x1C ∷ [])
    ++ (0x00 ∷ drop 27 P3old))) gives [])
    -- neither version is read as the other, not even with the other's byte 0
    ∷ (shown_read (read_in layout21 P3) gives [])
    ∷ (shown_read (read_in layout22 P3old) gives [])
    ∷ (shown_read (read_in layout21 (changed P3 0 (0x21 ∷ []))) gives [])
    ∷ (shown_read (read_in layout22 (changed P3old 0 (0x22 ∷ []))) gives [])
    -- but the empty book, which has no names
    ∷ (shown_read (read_in layout21 (changed P1 0 (0x21 ∷ []))) gives listed [])
    ∷ []

pub worked : failing 0 table ≡ []
unfolding be from_be allowed_bytes is_prefix is_name is_score valid record_of record_name record_length framed count_of read_as
    scores peak peaks records_at offset offsets image_in entries_in read_in
worked = refl

-- Worked cases of the sheet: one table, one proposition.
use Rattle.std.specs.Prelude.{◌+◌, ℕ, ◌≡◌, refl, List, [], ◌++◌, ◌∷◌, length, replicate, take}
use Prim.Native.String.{String}
use Rattle.octets.specs.Octets.{be, from_be}
use Rattle.octets.specs.Table.{Row, ◌gives◌, failing}
use Rattle.octets.specs.Text.{text}
use Rattle.entries.specs.Entries.{entry, valid}
use Rattle.entries.specs.Names.{allowed_bytes, is_name, is_prefix, is_score, ohm}
use Rattle.book.specs.Records.{record_length, record_name, record_of}
use Rattle.answer.specs.Answers.{entries_bytes, entry_bytes, writing, writing_image}
use Rattle.frame.specs.Frame.{count_of, entries_of, framed, read_as}
use Rattle.book.specs.Book.{book_image, entries_in, image_in, offset, offsets, peak, peaks, read_in, records_at}
use Rattle.book.specs.Book.{scores}
use Rattle.book.specs.Old.{P3old}
use Rattle.book.specs.Shown.{E, P1, P3, answer_entry, answer_for, changed, crowd, full_name, half_name, kΩ, listed}
use Rattle.book.specs.Shown.{shown_read, shown_written, signed, signed_book, spare, µA, µF}
use Rattle.sheet.specs.Sheet.{build_book, list_book, read_sheet, sheet_entries, sheet_image}

-- E as sheet, and the empty sheet
abbrev sheet_e : List ℕ
sheet_e =
    0x11 ∷ 0x00 ∷ 0x00 ∷ 0x00 ∷ 0x28 ∷ 0x00 ∷ 0x04
    ∷ 0x02 ∷ 0x61 ∷ 0x63 ∷ 0x00 ∷ 0x00 ∷ 0x00 ∷ 0x05
    ∷ 0x02 ∷ 0x72 ∷ 0x63 ∷ 0x00 ∷ 0x00 ∷ 0x00 ∷ 0x09
    ∷ 0x07 ∷ 0x72 ∷ 0x63 ∷ 0x20 ∷ 0x73 ∷ 0x74 ∷ 0x65 ∷ 0x70 ∷ 0x00 ∷ 0x00 ∷ 0x00 ∷ 0x09
    ∷ 0x02 ∷ 0x72 ∷ 0x6C ∷ 0x00 ∷ 0x00 ∷ 0x00 ∷ 0x0C ∷ []

abbrev empty_sheet : List ℕ
empty_sheet = 0x11 ∷ 0x00 ∷ 0x00 ∷ 0x00 ∷ 0x07 ∷ 0x00 ∷ 0x00 ∷ []

-- a sheet of one entry of score 1, its name n letters x
abbrev lone : ℕ → List ℕ
lone n = 0x11 ∷ 0x00 ∷ 0x00 ∷ 0x00 ∷ (12 + n) ∷ 0x00 ∷ 0x01 ∷ n ∷ replicate n 0x78 ++ (0x00 ∷ 0x00 ∷ 0x00 ∷ 0x01 ∷ [])

-- a sheet of two entries of score 1, in the order given
abbrev pair : String → String → List ℕ
pair v w =
    0x11 ∷ 0x00 ∷ 0x00 ∷ 0x00 ∷ (17 + length (text v) + length (text w)) ∷ 0x00 ∷ 0x02 ∷ answer_entry v 1
    ++ answer_entry w 1

-- what building a book from a sheet leaves, and what that is after refusal 1
abbrev built_from : List ℕ → List ℕ
built_from sheet = shown_written (build_book sheet (spare 50))

abbrev not_built : List ℕ
not_built = 1 ∷ 0 ∷ 0 ∷ spare 50

-- names with µ and Ω as sheet
abbrev signed_sheet : List ℕ
signed_sheet =
    0x11 ∷ 0x00 ∷ 0x00 ∷ 0x00 ∷ 0x2A ∷ 0x00 ∷ 0x04
    ∷ answer_for kΩ 7 ++ answer_for µA 4 ++ answer_for µF 9 ++ answer_for ohm 2

abbrev images : List Row
images =
    -- written, and read with bytes behind it
    (sheet_image E gives sheet_e)
    ∷ (sheet_image [] gives empty_sheet)
    ∷ (shown_read (read_sheet (sheet_e ++ spare 3)) gives listed E)
    ∷ (shown_read (read_sheet (empty_sheet ++ spare 9)) gives listed [])
    -- a name of 48 bytes; rising names, bytes 20 and 7E
    ∷ (shown_read (read_sheet (lone 48)) gives listed (entry (replicate 48 0x78) 1 ∷ []))
    ∷ (shown_read (read_sheet (pair "rc" "rc ")) gives listed (entry (text "rc") 1 ∷ entry (text "rc ") 1 ∷ []))
    ∷ (sheet_image signed gives signed_sheet)
    ∷ (shown_read (read_sheet (signed_sheet ++ spare 1)) gives listed signed)
    ∷ (shown_read (read_sheet (pair "rc" "rl~")) gives listed (entry (text "rc") 1 ∷ entry (text "rl~") 1 ∷ []))
    ∷ []

abbrev building : List Row
building =
    -- into 45 bytes, into the 43 of P3, into 42
    (shown_written (build_book (sheet_e ++ spare 3) (spare 45)) gives (0 ∷ 4 ∷ 43 ∷ P3 ++ spare 2))
    ∷ (shown_written (build_book sheet_e (spare 43)) gives (0 ∷ 4 ∷ 43 ∷ P3))
    ∷ (shown_written (build_book sheet_e (spare 42)) gives (7 ∷ 0 ∷ 0 ∷ spare 42))
    -- the empty sheet
    ∷ (shown_written (build_book (empty_sheet ++ spare 9) (spare 9)) gives (0 ∷ 0 ∷ 7 ∷ P1 ++ spare 2))
    ∷ (shown_written (build_book empty_sheet (spare 6)) gives (7 ∷ 0 ∷ 0 ∷ spare 6))
    -- equal names; falling ones; a name behind one that it begins
    ∷ (built_from (pair "rc" "rc") gives not_built)
    ∷ (built_from (pair "rl" "rc") gives not_built)
    ∷ (built_from (pair "rc step" "rc") gives not_built)
    -- names of 0 and 49 bytes; a byte that is not allowed
    ∷ (built_from (lone 0) gives not_built)
    ∷ (built_from (lone 49) gives not_built)
    ∷ (built_from (pair "rc" "rl\u{7f}") gives not_built)
    ∷ (built_from (pair "r\u{1f}" "rl") gives not_built)
    -- µ and Ω; half a sign, the other half of another
    ∷ (shown_written (build_book signed_sheet (spare 46)) gives (0 ∷ 4 ∷ 46 ∷ signed_book))
    ∷ (shown_written (build_book (sheet_image (entry full_name 1 ∷ [])) (spare 63))
    gives (0 ∷ 1 ∷ 63 ∷ book_image (entry full_name 1 ∷ [])))
    ∷ (built_from (sheet_image (entry half_name 1 ∷ [])) gives not_built)
    ∷ (built_from (changed signed_sheet 37 (0x41 ∷ [])) gives not_built)
    ∷ (built_from (changed signed_sheet 37 (0xB5 ∷ [])) gives not_built)
    -- 1,024 entries, and one more
    ∷ (length (entries_of (read_sheet (sheet_image (crowd 1024)))) ∷ [] gives (1024 ∷ []))
    ∷ (built_from (sheet_image (crowd 1025)) gives not_built)
    -- cut off; another version, an old book's too, which gives 10 only where a book is lent; total length and n one too
    -- small, one too large
    ∷ (built_from (take 39 sheet_e) gives not_built)
    ∷ (built_from P3 gives not_built)
    ∷ (built_from P3old gives not_built)
    ∷ (built_from (changed sheet_e 4 (0x27 ∷ [])) gives not_built)
    ∷ (built_from (changed sheet_e 4 (0x29 ∷ []) ++ spare 1) gives not_built)
    ∷ (built_from (changed sheet_e 6 (3 ∷ [])) gives not_built)
    ∷ (built_from (changed sheet_e 6 (5 ∷ [])) gives not_built)
    -- 1 before 7
    ∷ (shown_written (build_book (take 39 sheet_e) []) gives (1 ∷ 0 ∷ 0 ∷ []))
    ∷ []

abbrev listing : List Row
listing =
    -- into 42 bytes, into the 40 needed, into 39
    (shown_written (list_book (P3 ++ spare 3) (spare 42)) gives (0 ∷ 4 ∷ 40 ∷ sheet_e ++ spare 2))
    ∷ (shown_written (list_book P3 (spare 40)) gives (0 ∷ 4 ∷ 40 ∷ sheet_e))
    ∷ (shown_written (list_book P3 (spare 39)) gives (7 ∷ 0 ∷ 0 ∷ spare 39))
    ∷ (shown_written (list_book P1 (spare 7)) gives (0 ∷ 0 ∷ 7 ∷ empty_sheet))
    ∷ (shown_written (list_book signed_book (spare 42)) gives (0 ∷ 4 ∷ 42 ∷ signed_sheet))
    -- no book, before 7: a wrong peak, a sheet, an empty buffer
    ∷ (shown_written (list_book (changed P3 24 (1 ∷ [])) (spare 42)) gives (1 ∷ 0 ∷ 0 ∷ spare 42))
    ∷ (shown_written (list_book sheet_e []) gives (1 ∷ 0 ∷ 0 ∷ []))
    ∷ (shown_written (list_book [] []) gives (1 ∷ 0 ∷ 0 ∷ []))
    -- an old book, before 1 and 7: whole, with a wrong peak, cut off, its byte 0 alone
    ∷ (shown_written (list_book P3old (spare 42)) gives (10 ∷ 0 ∷ 0 ∷ spare 42))
    ∷ (shown_written (list_book (changed P3old 26 (1 ∷ [])) (spare 42)) gives (10 ∷ 0 ∷ 0 ∷ spare 42))
    ∷ (shown_written (list_book (take 43 P3old) []) gives (10 ∷ 0 ∷ 0 ∷ []))
    ∷ (shown_written (list_book (0x21 ∷ []) (spare 6)) gives (10 ∷ 0 ∷ 0 ∷ spare 6))
    ∷ []

abbrev table : List Row
table = images ++ building ++ listing

worked : failing 0 table ≡ []
unfolding be from_be allowed_bytes is_prefix is_name is_score valid record_of record_name record_length framed count_of read_as
    scores peak peaks records_at offset offsets image_in entries_in read_in writing writing_image entry_bytes entries_bytes
    sheet_image sheet_entries read_sheet build_book list_book
worked = refl

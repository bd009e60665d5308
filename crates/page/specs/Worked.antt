-- Worked cases of the page: its lines as they are printed, one table, one proposition.
use Rattle.std.specs.Prelude.{ℕ, ◌≡◌, refl, List, [], ◌++◌, ◌∷◌, length, replicate, take}
use Prim.Native.String.{String}
use Rattle.octets.specs.Decimal.{decimal}
use Rattle.octets.specs.Octets.{be, from_be}
use Rattle.octets.specs.Table.{Row, ◌gives◌, failing}
use Rattle.octets.specs.Text.{text}
use Rattle.entries.specs.Entries.{entry, valid}
use Rattle.entries.specs.Names.{allowed_bytes, is_name, is_prefix, is_score}
use Rattle.frame.specs.Frame.{count_of, framed, read_as}
use Rattle.answer.specs.Answers.{writing, writing_image}
use Rattle.book.specs.Book.{book_image, entries_in, image_in, offset, offsets, peak, peaks, read_in, records_at}
use Rattle.book.specs.Book.{scores}
use Rattle.book.specs.Records.{record_length, record_name, record_of}
use Rattle.book.specs.Old.{P3old}
use Rattle.book.specs.Shown.{E, P1, P3, changed, kΩ, shown_written, signed, signed_book, spare}
use Rattle.page.specs.Page.{entry_lines, first_line, further_line, heading, page_image, page_lines, parts, write_page}
use Rattle.page.specs.Shows.{number_in}

-- a line as it is printed
abbrev line : String → List ℕ
line s = text s ++ text "\n"

abbrev heading_line : List ℕ
heading_line = line "NAME                               SCORE"

-- E as page, 205 bytes
abbrev page_e : List ℕ
page_e =
    heading_line
    ++ line "rl                                    12"
    ++ line "rc                                     9"
    ++ line "rc step                                9"
    ++ line "ac                                     5"

-- the page of one entry
abbrev page_of : List ℕ → ℕ → List ℕ
page_of w s = page_image (entry w s ∷ [])

-- n letters x
abbrev letters : ℕ → List ℕ
letters n = replicate n 0x78

abbrev pages : List Row
pages =
    (heading gives text "NAME                               SCORE")
    ∷ (length heading ∷ [] gives (40 ∷ []))
    ∷ (page_image [] gives heading_line)
    -- in rank: the higher score first, at equal scores the earlier name
    ∷ (page_image E gives page_e)
    -- names of 1, 27, 28, 29 and 48 bytes: one line up to 28, then the rest in a second one without the score
    ∷ (page_of (letters 1) 7 gives (heading_line ++ line "x                                      7"))
    ∷ (page_of (letters 27) 7 gives (heading_line ++ line "xxxxxxxxxxxxxxxxxxxxxxxxxxx            7"))
    ∷ (page_of (letters 28) 7 gives (heading_line ++ line "xxxxxxxxxxxxxxxxxxxxxxxxxxxx           7"))
    ∷ (page_of (letters 29) 7
    gives (heading_line
    ++ line "xxxxxxxxxxxxxxxxxxxxxxxxxxxx           7"
    ++ line "x                                       "))
    ∷ (page_of (letters 48) 7
    gives (heading_line
    ++ line "xxxxxxxxxxxxxxxxxxxxxxxxxxxx           7"
    ++ line "xxxxxxxxxxxxxxxxxxxx                    "))
    -- lines of a longer text, were there one: 56 bytes have two, 57 three
    ∷ (length (entry_lines (entry (letters 56) 7)) ∷ [] gives (2 ∷ []))
    ∷ (length (entry_lines (entry (letters 57) 7)) ∷ [] gives (3 ∷ []))
    -- the least and the highest score, with one digit and with ten
    ∷ (page_of (text "dc") 0 gives (heading_line ++ line "dc                                     0"))
    ∷ (page_of (text "dc") 4294967295 gives (heading_line ++ line "dc                            4294967295"))
    -- spaces at a name's ends stand where they are
    ∷ (page_of (text " dc ") 10 gives (heading_line ++ line " dc                                   10"))
    -- a column is a byte: Ω takes two, and 27 letters and µ are split
    ∷ (page_of kΩ 8
    gives (heading_line
    ++ (text "4.7 k" ++ (0xCE ∷ 0xA9 ∷ [])
    ++ line "                                8")))
    ∷ (page_of (letters 27 ++ (0xC2 ∷ 0xB5 ∷ [])) 8
    gives (heading_line
    ++ (letters 27 ++ (0xC2 ∷ []))
    ++ line "           8"
    ++ (0xB5 ∷ [])
    ++ line "                                       "))
    -- µ whole at the end of the first line
    ∷ (page_of (letters 26 ++ (0xC2 ∷ 0xB5 ∷ [])) 8
    gives (heading_line ++ (letters 26 ++ (0xC2 ∷ 0xB5 ∷ [])) ++ line "           8"))
    -- equal scores: the earlier name, also where it is the beginning of the other, and by byte order
    ∷ (page_image (entry (text "A") 3 ∷ entry (text "a") 3 ∷ entry (text "ab") 3 ∷ entry (text "b") 4 ∷ [])
    gives (heading_line
    ++ line "b                                      4"
    ++ line "A                                      3"
    ++ line "a                                      3"
    ++ line "ab                                     3"))
    -- a right-aligned field read as a number
    ∷ (number_in (text "         0") ∷ number_in (text "        12") ∷ number_in (text "4294967295") ∷ []
    gives (0 ∷ 12 ∷ 4294967295 ∷ []))
    ∷ []

abbrev writes : List Row
writes =
    -- into 207 bytes, into the 205 needed, into 204
    (shown_written (write_page (P3 ++ spare 3) (spare 207)) gives (0 ∷ 4 ∷ 205 ∷ page_e ++ spare 2))
    ∷ (shown_written (write_page P3 (spare 205)) gives (0 ∷ 4 ∷ 205 ∷ page_e))
    ∷ (shown_written (write_page P3 (spare 204)) gives (7 ∷ 0 ∷ 0 ∷ spare 204))
    -- the empty book: the heading alone
    ∷ (shown_written (write_page (P1 ++ spare 9) (spare 42)) gives (0 ∷ 0 ∷ 41 ∷ heading_line ++ spare 1))
    ∷ (shown_written (write_page P1 (spare 41)) gives (0 ∷ 0 ∷ 41 ∷ heading_line))
    ∷ (shown_written (write_page P1 (spare 40)) gives (7 ∷ 0 ∷ 0 ∷ spare 40))
    -- a name of two lines: 123 bytes, not one less
    ∷ (shown_written (write_page (book_image (entry (letters 29) 7 ∷ [])) (spare 123))
    gives (0 ∷ 1 ∷ 123 ∷ page_of (letters 29) 7))
    ∷ (shown_written (write_page (book_image (entry (letters 29) 7 ∷ [])) (spare 122)) gives (7 ∷ 0 ∷ 0 ∷ spare 122))
    -- µ and Ω
    ∷ (shown_written (write_page signed_book (spare 205)) gives (0 ∷ 4 ∷ 205 ∷ page_image signed))
    -- no book, before 7: a wrong peak, a sheet's version, a book that is cut off, an empty buffer
    ∷ (shown_written (write_page (changed P3 24 (1 ∷ [])) (spare 205)) gives (1 ∷ 0 ∷ 0 ∷ spare 205))
    ∷ (shown_written (write_page (changed P3 0 (0x11 ∷ [])) (spare 205)) gives (1 ∷ 0 ∷ 0 ∷ spare 205))
    ∷ (shown_written (write_page (take 42 P3) []) gives (1 ∷ 0 ∷ 0 ∷ []))
    ∷ (shown_written (write_page [] []) gives (1 ∷ 0 ∷ 0 ∷ []))
    -- an old book, before 1 and 7: whole, with a wrong peak, cut off, its byte 0 alone
    ∷ (shown_written (write_page P3old (spare 205)) gives (10 ∷ 0 ∷ 0 ∷ spare 205))
    ∷ (shown_written (write_page (changed P3old 26 (1 ∷ [])) (spare 205)) gives (10 ∷ 0 ∷ 0 ∷ spare 205))
    ∷ (shown_written (write_page (take 43 P3old) []) gives (10 ∷ 0 ∷ 0 ∷ []))
    ∷ (shown_written (write_page (0x21 ∷ []) (spare 40)) gives (10 ∷ 0 ∷ 0 ∷ spare 40))
    ∷ []

abbrev table : List Row
table = pages ++ writes

worked : failing 0 table ≡ []
unfolding be from_be decimal allowed_bytes is_prefix is_name is_score valid record_of record_name record_length framed count_of
    read_as scores peak peaks records_at offset offsets image_in entries_in read_in writing writing_image heading first_line
    further_line parts entry_lines page_lines page_image write_page
worked = refl

-- Worked cases of the edits: one table, one proposition. Sets with 1,024 names held are worked by what they are refused
-- for; whole in the crates `ledger` and `program`, where the entries held need not be read from an image.
use Rattle.std.specs.Prelude.{ℕ, ◌≡◌, refl, List, [], ◌++◌, ◌∷◌, replicate, take}
use Rattle.octets.specs.Octets.{be, from_be}
use Rattle.octets.specs.Table.{Row, ◌gives◌, failing}
use Rattle.octets.specs.Text.{text}
use Rattle.entries.specs.Entries.{Entry, entry, valid}
use Rattle.entries.specs.Names.{allowed_bytes, is_name, is_prefix, is_score, micro, ohm}
use Rattle.book.specs.Records.{record_length, record_name, record_of}
use Rattle.answer.specs.Answers.{applying, writing, writing_image}
use Rattle.book.specs.Book.{book_image, entries_in, image_in, offset, offsets, peak, peaks, read_in, records_at}
use Rattle.book.specs.Book.{scores}
use Rattle.frame.specs.Frame.{count_of, framed, read_as}
use Rattle.book.specs.Old.{P3old}
use Rattle.book.specs.Shown.{P1, P3, P4, changed, crowd, full_name, half_name, kΩ, shown_written, signed_book, spare}
use Rattle.book.specs.Shown.{µA, µF}
use Rattle.edit.specs.Edits.{empty_book, set_entry, set_refusals, withdraw_entry, withdraw_refusals}

-- the book of ac 5, and of ac 5, rl 12
abbrev one : List ℕ
one = 0x22 ∷ 0x00 ∷ 0x00 ∷ 0x00 ∷ 0x11 ∷ 0x00 ∷ 0x01 ∷ 0x00 ∷ 0x00 ∷ 0x00 ∷ 0x05 ∷ 0x00 ∷ 0x00 ∷ 0 ∷ 2 ∷ text "ac"

abbrev two : List ℕ
two =
    0x22 ∷ 0x00 ∷ 0x00 ∷ 0x00 ∷ 0x19 ∷ 0x00 ∷ 0x02 ∷ 0x00 ∷ 0x00 ∷ 0x00 ∷ 0x05 ∷ 0x00 ∷ 0x00 ∷ 0x00 ∷ 0x0C
    ∷ 0x00 ∷ 0x01 ∷ 0 ∷ 2 ∷ text "ac" ++ (0 ∷ 2 ∷ text "rl")

-- E without ac: what stood second is now the first
abbrev without_ac : List ℕ
without_ac =
    0x22 ∷ 0x00 ∷ 0x00 ∷ 0x00 ∷ 0x23 ∷ 0x00 ∷ 0x03 ∷ 0x00 ∷ 0x00 ∷ 0x00 ∷ 0x09 ∷ 0x00 ∷ 0x00 ∷ 0x00 ∷ 0x09
    ∷ 0x00 ∷ 0x00 ∷ 0x00 ∷ 0x0C ∷ 0x00 ∷ 0x02
    ∷ 0 ∷ 2 ∷ text "rc" ++ (2 ∷ 5 ∷ text " step") ++ (1 ∷ 1 ∷ text "l")

-- E without rc: what stood behind "rc" is now behind "ac", with the two bytes that it shared with "rc"
abbrev without_rc : List ℕ
without_rc =
    0x22 ∷ 0x00 ∷ 0x00 ∷ 0x00 ∷ 0x25 ∷ 0x00 ∷ 0x03 ∷ 0x00 ∷ 0x00 ∷ 0x00 ∷ 0x05 ∷ 0x00 ∷ 0x00 ∷ 0x00 ∷ 0x09
    ∷ 0x00 ∷ 0x00 ∷ 0x00 ∷ 0x0C ∷ 0x00 ∷ 0x02
    ∷ 0 ∷ 2 ∷ text "ac" ++ (0 ∷ 7 ∷ text "rc step") ++ (1 ∷ 1 ∷ text "l")

-- E with "rc s" of score 1: what stood behind "rc" is now behind "rc s"
abbrev with_rc_s : List ℕ
with_rc_s =
    0x22 ∷ 0x00 ∷ 0x00 ∷ 0x00 ∷ 0x31 ∷ 0x00 ∷ 0x05 ∷ 0x00 ∷ 0x00 ∷ 0x00 ∷ 0x05 ∷ 0x00 ∷ 0x00 ∷ 0x00 ∷ 0x09
    ∷ 0x00 ∷ 0x00 ∷ 0x00 ∷ 0x01 ∷ 0x00 ∷ 0x00 ∷ 0x00 ∷ 0x09 ∷ 0x00 ∷ 0x00 ∷ 0x00 ∷ 0x0C ∷ 0x00 ∷ 0x04
    ∷ 0 ∷ 2 ∷ text "ac" ++ (0 ∷ 2 ∷ text "rc") ++ (2 ∷ 2 ∷ text " s") ++ (4 ∷ 3 ∷ text "tep") ++ (1 ∷ 1 ∷ text "l")

-- names with µ and Ω, without µF
abbrev withoutµF : List Entry
withoutµF = entry kΩ 7 ∷ entry µA 4 ∷ entry ohm 2 ∷ []

abbrev emptying : List Row
emptying =
    -- into 6 bytes, 7, 9
    (shown_written (empty_book (spare 6)) gives (7 ∷ 0 ∷ 0 ∷ spare 6))
    ∷ (shown_written (empty_book (spare 7)) gives (0 ∷ 0 ∷ 7 ∷ P1))
    ∷ (shown_written (empty_book (spare 9)) gives (0 ∷ 0 ∷ 7 ∷ P1 ++ spare 2))
    ∷ []

abbrev setting : List Row
setting =
    -- a new name: the first, one behind it, one between
    (shown_written (set_entry (P1 ++ spare 20) (text "ac") 5 (spare 19)) gives (0 ∷ 1 ∷ 17 ∷ one ++ spare 2))
    ∷ (shown_written (set_entry one (text "rl") 12 (spare 25)) gives (0 ∷ 2 ∷ 25 ∷ two))
    ∷ (shown_written (set_entry one (text "rl") 12 (spare 24)) gives (7 ∷ 0 ∷ 0 ∷ spare 24))
    ∷ (shown_written (set_entry P3 (text "rc s") 1 (spare 50)) gives (0 ∷ 5 ∷ 49 ∷ with_rc_s ++ spare 1))
    ∷ (shown_written (set_entry P3 (text "rc s") 1 (spare 48)) gives (7 ∷ 0 ∷ 0 ∷ spare 48))
    -- a held name: a higher score moves the peak to it; a lower one moves it away, to the earlier of two names; to the
    -- same score
    ∷ (shown_written (set_entry P3 (text "ac") 13 (spare 43))
    gives (0 ∷ 4 ∷ 43 ∷ changed (changed P3 10 (13 ∷ [])) 24 (0 ∷ [])))
    ∷ (shown_written (set_entry P3 (text "rl") 8 (spare 43))
    gives (0 ∷ 4 ∷ 43 ∷ changed (changed P3 22 (8 ∷ [])) 24 (1 ∷ [])))
    ∷ (shown_written (set_entry P3 (text "rl") 12 (spare 46)) gives (0 ∷ 4 ∷ 43 ∷ P3 ++ spare 3))
    ∷ (shown_written (set_entry P3 (text "rl") 8 (spare 42)) gives (7 ∷ 0 ∷ 0 ∷ spare 42))
    -- the highest score
    ∷ (shown_written (set_entry one (text "ac") 4294967295 (spare 17))
    gives (0 ∷ 1 ∷ 17 ∷ changed one 7 (0xFF ∷ 0xFF ∷ 0xFF ∷ 0xFF ∷ [])))
    -- a name that is not allowed comes before 7, and no book before both
    ∷ (shown_written (set_entry P3 [] 1 (spare 60)) gives (2 ∷ 0 ∷ 0 ∷ spare 60))
    ∷ (shown_written (set_entry P3 (text "rc\u{7f}") 1 []) gives (2 ∷ 0 ∷ 0 ∷ []))
    ∷ (shown_written (set_entry (take 42 P3) (text "rc\u{7f}") 1 []) gives (1 ∷ 0 ∷ 0 ∷ []))
    ∷ (shown_written (set_entry (changed P3 24 (1 ∷ [])) (text "rc") 1 (spare 60)) gives (1 ∷ 0 ∷ 0 ∷ spare 60))
    -- µF behind µA: a new name, and a held one; half a sign, and 47 bytes and a half
    ∷ (shown_written (set_entry (book_image withoutµF) µF 9 (spare 46)) gives (0 ∷ 4 ∷ 46 ∷ signed_book))
    ∷ (shown_written (set_entry signed_book µF 9 (spare 47)) gives (0 ∷ 4 ∷ 46 ∷ signed_book ++ spare 1))
    ∷ (shown_written (set_entry signed_book (text "10 " ++ (0xC2 ∷ [])) 1 (spare 60)) gives (2 ∷ 0 ∷ 0 ∷ spare 60))
    ∷ (shown_written (set_entry P1 (replicate 47 0x78 ++ (0xC2 ∷ [])) 1 (spare 80)) gives (2 ∷ 0 ∷ 0 ∷ spare 80))
    ∷ (shown_written (set_entry P1 (replicate 46 0x78 ++ micro) 1 (spare 63))
    gives (0 ∷ 1 ∷ 63 ∷ book_image (entry (replicate 46 0x78 ++ micro) 1 ∷ [])))
    -- an old book, whole, cut off, damaged and of one byte: 10 before 1, 2 and 7; an empty buffer is no book
    ∷ (shown_written (set_entry P3old (text "ac") 13 (spare 60)) gives (10 ∷ 0 ∷ 0 ∷ spare 60))
    ∷ (shown_written (set_entry (take 43 P3old) (text "ac") 13 (spare 60)) gives (10 ∷ 0 ∷ 0 ∷ spare 60))
    ∷ (shown_written (set_entry (changed P3 0 (0x21 ∷ [])) [] 13 []) gives (10 ∷ 0 ∷ 0 ∷ []))
    ∷ (shown_written (set_entry (0x21 ∷ []) [] 1 (spare 60)) gives (10 ∷ 0 ∷ 0 ∷ spare 60))
    ∷ (shown_written (set_entry [] [] 1 (spare 60)) gives (1 ∷ 0 ∷ 0 ∷ spare 60))
    ∷ []

abbrev withdrawing : List Row
withdrawing =
    -- into 36 bytes, into the 35 needed, into 34
    (shown_written (withdraw_entry (P3 ++ spare 3) (text "ac") (spare 36)) gives (0 ∷ 3 ∷ 35 ∷ without_ac ++ spare 1))
    ∷ (shown_written (withdraw_entry P3 (text "ac") (spare 35)) gives (0 ∷ 3 ∷ 35 ∷ without_ac))
    ∷ (shown_written (withdraw_entry P3 (text "ac") (spare 34)) gives (7 ∷ 0 ∷ 0 ∷ spare 34))
    -- the record behind takes bytes of the one withdrawn, and the image still gets 6 bytes shorter
    ∷ (shown_written (withdraw_entry P3 (text "rc") (spare 37)) gives (0 ∷ 3 ∷ 37 ∷ without_rc))
    ∷ (shown_written (withdraw_entry P3 (text "rc") (spare 36)) gives (7 ∷ 0 ∷ 0 ∷ spare 36))
    -- what was set between; the best; the only one
    ∷ (shown_written (withdraw_entry with_rc_s (text "rc s") (spare 43)) gives (0 ∷ 4 ∷ 43 ∷ P3))
    ∷ (shown_written (withdraw_entry two (text "rl") (spare 17)) gives (0 ∷ 1 ∷ 17 ∷ one))
    ∷ (shown_written (withdraw_entry one (text "ac") (spare 8)) gives (0 ∷ 0 ∷ 7 ∷ P1 ++ spare 1))
    -- a name with a sign; half a sign
    ∷ (shown_written (withdraw_entry signed_book µF (spare 39)) gives (0 ∷ 3 ∷ 39 ∷ book_image withoutµF))
    ∷ (shown_written (withdraw_entry signed_book (0xC2 ∷ []) (spare 60)) gives (2 ∷ 0 ∷ 0 ∷ spare 60))
    ∷ (shown_written (withdraw_entry (book_image (entry full_name 1 ∷ [])) full_name (spare 7)) gives (0 ∷ 0 ∷ 7 ∷ P1))
    ∷ (shown_written (withdraw_entry signed_book half_name (spare 60)) gives (2 ∷ 0 ∷ 0 ∷ spare 60))
    -- not in the book: 4 before 7; not allowed: 2 before 4; no book before all
    ∷ (shown_written (withdraw_entry P3 (text "zz") (spare 60)) gives (4 ∷ 0 ∷ 0 ∷ spare 60))
    ∷ (shown_written (withdraw_entry P3 (text "r") []) gives (4 ∷ 0 ∷ 0 ∷ []))
    ∷ (shown_written (withdraw_entry P3 [] (spare 60)) gives (2 ∷ 0 ∷ 0 ∷ spare 60))
    ∷ (shown_written (withdraw_entry P3 (replicate 49 0x72) []) gives (2 ∷ 0 ∷ 0 ∷ []))
    ∷ (shown_written (withdraw_entry P4 [] []) gives (1 ∷ 0 ∷ 0 ∷ []))
    ∷ (shown_written (withdraw_entry (take 42 P3) (text "zz") (spare 60)) gives (1 ∷ 0 ∷ 0 ∷ spare 60))
    -- an old book, whole, cut off, damaged and of one byte: 10 before 1, 2, 4 and 7; an empty buffer is no book
    ∷ (shown_written (withdraw_entry P3old (text "ac") (spare 60)) gives (10 ∷ 0 ∷ 0 ∷ spare 60))
    ∷ (shown_written (withdraw_entry (take 43 P3old) (text "zz") (spare 60)) gives (10 ∷ 0 ∷ 0 ∷ spare 60))
    ∷ (shown_written (withdraw_entry (changed P3 0 (0x21 ∷ [])) [] []) gives (10 ∷ 0 ∷ 0 ∷ []))
    ∷ (shown_written (withdraw_entry (0x21 ∷ []) [] (spare 60)) gives (10 ∷ 0 ∷ 0 ∷ spare 60))
    ∷ (shown_written (withdraw_entry [] [] (spare 60)) gives (1 ∷ 0 ∷ 0 ∷ spare 60))
    ∷ []

-- what is refused with these entries held, besides the book and the space: every number that applies
abbrev limits : List Row
limits =
    -- with 1,024 held: 5 for a new name, not for a held one; with 1,023 neither
    (applying (set_refusals (text "zz") (crowd 1024)) gives (5 ∷ []))
    ∷ (applying (set_refusals (text "00") (crowd 1024)) gives [])
    ∷ (applying (set_refusals (text "zz") (crowd 1023)) gives [])
    -- a name that is not allowed
    ∷ (applying (set_refusals [] (crowd 1024)) gives (2 ∷ 5 ∷ []))
    -- a withdrawal, with 1,024 held
    ∷ (applying (withdraw_refusals (text "00") (crowd 1024)) gives [])
    ∷ (applying (withdraw_refusals (text "zz") (crowd 1024)) gives (4 ∷ []))
    ∷ (applying (withdraw_refusals [] (crowd 1024)) gives (2 ∷ 4 ∷ []))
    ∷ []

abbrev table : List Row
table = emptying ++ setting ++ withdrawing ++ limits

worked : failing 0 table ≡ []
unfolding be from_be allowed_bytes is_prefix is_name is_score valid record_of record_name record_length framed count_of read_as
    scores peak peaks records_at offset offsets image_in entries_in read_in writing writing_image
    empty_book set_entry withdraw_entry
worked = refl

-- Worked cases of the read-only calls: one table, one proposition.
use Rattle.std.specs.Prelude.{ℕ, ◌≡◌, refl, List, [], ◌++◌, ◌∷◌, replicate, take}
use Rattle.octets.specs.Octets.{be, from_be}
use Rattle.octets.specs.Table.{Row, ◌gives◌, failing}
use Rattle.octets.specs.Text.{text}
use Rattle.entries.specs.Completion.{range_start}
use Rattle.entries.specs.Entries.{entry, valid}
use Rattle.entries.specs.Names.{allowed_bytes, is_name, is_prefix, is_score, micro, ohm}
use Rattle.book.specs.Records.{record_length, record_name, record_of}
use Rattle.answer.specs.Answers.{entry_bytes, writing, writing_image}
use Rattle.book.specs.Book.{book_image, entries_in, image_in, offset, offsets, peak, peaks, read_in, records_at}
use Rattle.book.specs.Book.{scores}
use Rattle.frame.specs.Frame.{count_of, framed, read_as}
use Rattle.lookup.specs.Lookups.{check_book, find, found_in, head_length, head_name, name_at, name_of, prefix_range}
use Rattle.book.specs.Old.{P1old, P3old}
use Rattle.book.specs.Shown.{P1, P3, P4, answer_entry, answer_for, changed, full_name, half_name, kΩ, letters}
use Rattle.book.specs.Shown.{seventeen_book, shown_found, shown_length, shown_span, shown_written, signed_book, spare, µF}

abbrev finding : List Row
finding =
    -- present: position and score
    (shown_found (find P3 (text "ac")) gives (0 ∷ 0 ∷ 5 ∷ []))
    ∷ (shown_found (find (P3 ++ spare 3) (text "rc step")) gives (0 ∷ 2 ∷ 9 ∷ []))
    ∷ (shown_found (find seventeen_book (text "q")) gives (0 ∷ 16 ∷ 0 ∷ []))
    -- absent: none
    ∷ (shown_found (find P3 (text "r")) gives (0 ∷ []))
    ∷ (shown_found (find P1 (replicate 48 0x7E)) gives (0 ∷ []))
    -- a name that is not allowed; no book, which comes first
    ∷ (shown_found (find P3 []) gives (2 ∷ []))
    ∷ (shown_found (find P3 (replicate 49 0x7E)) gives (2 ∷ []))
    ∷ (shown_found (find P3 (0x1F ∷ [])) gives (2 ∷ []))
    ∷ (shown_found (find P3 (0x7F ∷ [])) gives (2 ∷ []))
    ∷ (shown_found (find (take 42 P3) (text "ac")) gives (1 ∷ []))
    ∷ (shown_found (find (take 42 P3) []) gives (1 ∷ []))
    -- µ and Ω; a name of 48 bytes that ends in one; half a sign, and 47 bytes and a half
    ∷ (shown_found (find signed_book µF) gives (0 ∷ 2 ∷ 9 ∷ []))
    ∷ (shown_found (find signed_book ohm) gives (0 ∷ 3 ∷ 2 ∷ []))
    ∷ (shown_found (find signed_book micro) gives (0 ∷ []))
    ∷ (shown_found (find P3 (replicate 46 0x78 ++ ohm)) gives (0 ∷ []))
    ∷ (shown_found (find signed_book (0xCE ∷ [])) gives (2 ∷ []))
    ∷ (shown_found (find P3 (replicate 47 0x78 ++ (0xCE ∷ []))) gives (2 ∷ []))
    -- an old book, whole, cut off and of one byte: 10 before 1 and 2; an empty buffer is no book
    ∷ (shown_found (find P3old (text "ac")) gives (10 ∷ []))
    ∷ (shown_found (find (take 43 P3old) (text "ac")) gives (10 ∷ []))
    ∷ (shown_found (find (0x21 ∷ []) []) gives (10 ∷ []))
    ∷ (shown_found (find [] []) gives (1 ∷ []))
    ∷ []

abbrev naming : List Row
naming =
    -- the entry at a position into 14 bytes, into the 12 that it needs, into 11
    (shown_written (name_at (P3 ++ spare 2) 2 (spare 14)) gives (0 ∷ 1 ∷ 12 ∷ answer_entry "rc step" 9 ++ spare 2))
    ∷ (shown_written (name_at P3 2 (spare 12)) gives (0 ∷ 1 ∷ 12 ∷ answer_entry "rc step" 9))
    ∷ (shown_written (name_at P3 2 (spare 11)) gives (7 ∷ 0 ∷ 0 ∷ spare 11))
    -- position n, and beyond any: 6 before 7; no book before both
    ∷ (shown_written (name_at P3 4 (spare 53)) gives (6 ∷ 0 ∷ 0 ∷ spare 53))
    ∷ (shown_written (name_at P3 4294967296 []) gives (6 ∷ 0 ∷ 0 ∷ []))
    ∷ (shown_written (name_at P1 0 (spare 2)) gives (6 ∷ 0 ∷ 0 ∷ spare 2))
    ∷ (shown_written (name_at (take 42 P3) 4 []) gives (1 ∷ 0 ∷ 0 ∷ []))
    -- the entry of a name into 8 bytes, 7, 6
    ∷ (shown_written (name_of P3 (text "rl") (spare 8)) gives (0 ∷ 1 ∷ 7 ∷ answer_entry "rl" 12 ++ spare 1))
    ∷ (shown_written (name_of P3 (text "rl") (spare 7)) gives (0 ∷ 1 ∷ 7 ∷ answer_entry "rl" 12))
    ∷ (shown_written (name_of P3 (text "rl") (spare 6)) gives (7 ∷ 0 ∷ 0 ∷ spare 6))
    -- not in the book: 4 before 7; not allowed; no book
    ∷ (shown_written (name_of P3 (text "rc s") []) gives (4 ∷ 0 ∷ 0 ∷ []))
    ∷ (shown_written (name_of P3 [] (spare 53)) gives (2 ∷ 0 ∷ 0 ∷ spare 53))
    ∷ (shown_written (name_of (changed P3 24 (1 ∷ [])) [] (spare 5)) gives (1 ∷ 0 ∷ 0 ∷ spare 5))
    -- µ and Ω; half a sign
    ∷ (shown_written (name_at signed_book 0 (spare 12)) gives (0 ∷ 1 ∷ 12 ∷ answer_for kΩ 7))
    ∷ (shown_written (name_of signed_book ohm (spare 8)) gives (0 ∷ 1 ∷ 7 ∷ answer_for ohm 2 ++ spare 1))
    ∷ (shown_written (name_of signed_book (0xC2 ∷ []) (spare 8)) gives (2 ∷ 0 ∷ 0 ∷ spare 8))
    ∷ (shown_written (name_of signed_book full_name (spare 60)) gives (4 ∷ 0 ∷ 0 ∷ spare 60))
    ∷ (shown_written (name_of signed_book half_name (spare 60)) gives (2 ∷ 0 ∷ 0 ∷ spare 60))
    -- an old book, whole, damaged and of one byte: 10 before 1, 2, 4, 6 and 7; an empty buffer is no book
    ∷ (shown_written (name_at P3old 2 (spare 12)) gives (10 ∷ 0 ∷ 0 ∷ spare 12))
    ∷ (shown_written (name_at (changed P3 0 (0x21 ∷ [])) 2 (spare 12)) gives (10 ∷ 0 ∷ 0 ∷ spare 12))
    ∷ (shown_written (name_at (0x21 ∷ []) 4 []) gives (10 ∷ 0 ∷ 0 ∷ []))
    ∷ (shown_written (name_at [] 4 []) gives (1 ∷ 0 ∷ 0 ∷ []))
    ∷ (shown_written (name_of P3old (text "rl") (spare 7)) gives (10 ∷ 0 ∷ 0 ∷ spare 7))
    ∷ (shown_written (name_of (changed P3old 26 (1 ∷ [])) [] (spare 7)) gives (10 ∷ 0 ∷ 0 ∷ spare 7))
    ∷ (shown_written (name_of (0x21 ∷ []) (text "zz") []) gives (10 ∷ 0 ∷ 0 ∷ []))
    ∷ (shown_written (name_of [] [] []) gives (1 ∷ 0 ∷ 0 ∷ []))
    ∷ []

abbrev ranges : List Row
ranges =
    -- first position and count
    (shown_span (prefix_range P3 (text "r")) gives (0 ∷ 1 ∷ 3 ∷ []))
    ∷ (shown_span (prefix_range P3 (text "rc")) gives (0 ∷ 1 ∷ 2 ∷ []))
    ∷ (shown_span (prefix_range P3 (text "rl")) gives (0 ∷ 3 ∷ 1 ∷ []))
    ∷ (shown_span (prefix_range P3 []) gives (0 ∷ 0 ∷ 4 ∷ []))
    ∷ (shown_span (prefix_range seventeen_book (text "q")) gives (0 ∷ 16 ∷ 1 ∷ []))
    -- none: first is 0, wherever they would stand
    ∷ (shown_span (prefix_range P3 (text "q")) gives (0 ∷ 0 ∷ 0 ∷ []))
    ∷ (shown_span (prefix_range P3 (text "z")) gives (0 ∷ 0 ∷ 0 ∷ []))
    ∷ (shown_span (prefix_range P1 []) gives (0 ∷ 0 ∷ 0 ∷ []))
    -- a prefix that is not allowed; no book
    ∷ (shown_span (prefix_range P3 (replicate 48 0x72)) gives (0 ∷ 0 ∷ 0 ∷ []))
    ∷ (shown_span (prefix_range P3 (replicate 49 0x72)) gives (2 ∷ 0 ∷ 0 ∷ []))
    ∷ (shown_span (prefix_range P3 (0x72 ∷ 0x1F ∷ [])) gives (2 ∷ 0 ∷ 0 ∷ []))
    ∷ (shown_span (prefix_range P4 []) gives (1 ∷ 0 ∷ 0 ∷ []))
    -- µ and Ω; half of either
    ∷ (shown_span (prefix_range signed_book micro) gives (0 ∷ 1 ∷ 2 ∷ []))
    ∷ (shown_span (prefix_range signed_book ohm) gives (0 ∷ 3 ∷ 1 ∷ []))
    ∷ (shown_span (prefix_range signed_book (text "4.7 k")) gives (0 ∷ 0 ∷ 1 ∷ []))
    ∷ (shown_span (prefix_range signed_book full_name) gives (0 ∷ 0 ∷ 0 ∷ []))
    ∷ (shown_span (prefix_range signed_book half_name) gives (2 ∷ 0 ∷ 0 ∷ []))
    ∷ (shown_span (prefix_range signed_book (0xC2 ∷ [])) gives (2 ∷ 0 ∷ 0 ∷ []))
    ∷ (shown_span (prefix_range signed_book (text "4.7 k" ++ (0xCE ∷ []))) gives (2 ∷ 0 ∷ 0 ∷ []))
    -- an old book, whole, cut off and of one byte: 10 before 1 and 2; an empty buffer is no book
    ∷ (shown_span (prefix_range P3old (text "r")) gives (10 ∷ 0 ∷ 0 ∷ []))
    ∷ (shown_span (prefix_range (take 43 P3old) (0x1F ∷ [])) gives (10 ∷ 0 ∷ 0 ∷ []))
    ∷ (shown_span (prefix_range (0x21 ∷ []) []) gives (10 ∷ 0 ∷ 0 ∷ []))
    ∷ (shown_span (prefix_range [] (0x1F ∷ [])) gives (1 ∷ 0 ∷ 0 ∷ []))
    ∷ []

-- the companion's number and length, then the head name
abbrev head_of : List ℕ → ℕ → List ℕ
head_of book j = shown_length (head_length book j) ++ head_name book j

abbrev heads : List Row
heads =
    -- bucket 0: the first name, of 4 names and of 17
    (head_of (P3 ++ spare 3) 0 gives (0 ∷ 2 ∷ text "ac"))
    ∷ (head_of seventeen_book 0 gives (0 ∷ 1 ∷ text "a"))
    -- a length of 6 is no refusal
    ∷ (head_of (book_image (entry (text "abcdef") 1 ∷ [])) 0 gives (0 ∷ 6 ∷ text "abcdef"))
    ∷ (head_of signed_book 0 gives (0 ∷ 7 ∷ kΩ))
    -- any other bucket, of 4, 9 and 17 names; bucket 0 of the empty book: an empty part
    ∷ (head_of P3 1 gives (6 ∷ 0 ∷ []))
    ∷ (head_of P3 4294967296 gives (6 ∷ 0 ∷ []))
    ∷ (head_of (book_image (letters 0x61 (replicate 9 0))) 1 gives (6 ∷ 0 ∷ []))
    ∷ (head_of seventeen_book 1 gives (6 ∷ 0 ∷ []))
    ∷ (head_of seventeen_book 2 gives (6 ∷ 0 ∷ []))
    ∷ (head_of P1 0 gives (6 ∷ 0 ∷ []))
    ∷ (head_of P1 1 gives (6 ∷ 0 ∷ []))
    -- no book: 1 before 6
    ∷ (head_of (take 42 P3) 0 gives (1 ∷ 0 ∷ []))
    ∷ (head_of (take 42 P3) 1 gives (1 ∷ 0 ∷ []))
    ∷ (head_of [] 0 gives (1 ∷ 0 ∷ []))
    -- an old book, whole, cut off and of one byte: 10 before 1 and 6
    ∷ (head_of P3old 0 gives (10 ∷ 0 ∷ []))
    ∷ (head_of P3old 1 gives (10 ∷ 0 ∷ []))
    ∷ (head_of (take 43 P3old) 1 gives (10 ∷ 0 ∷ []))
    ∷ (head_of (0x21 ∷ []) 1 gives (10 ∷ 0 ∷ []))
    ∷ []

-- a check's answer as numbers: the refusal or 0, then entries and bytes
abbrev checked : List ℕ → List ℕ
checked book = shown_written (record { answer = check_book book; dest = [] })

abbrev checks : List Row
checks =
    -- the bytes are the image's, whatever stands behind it
    (checked P3 gives (0 ∷ 4 ∷ 43 ∷ []))
    ∷ (checked (P3 ++ spare 3) gives (0 ∷ 4 ∷ 43 ∷ []))
    ∷ (checked P1 gives (0 ∷ 0 ∷ 7 ∷ []))
    ∷ (checked signed_book gives (0 ∷ 4 ∷ 46 ∷ []))
    -- cut off, a peak that is not the best, a trie
    ∷ (checked (take 42 P3) gives (1 ∷ 0 ∷ 0 ∷ []))
    ∷ (checked (changed P3 24 (1 ∷ [])) gives (1 ∷ 0 ∷ 0 ∷ []))
    ∷ (checked P4 gives (1 ∷ 0 ∷ 0 ∷ []))
    -- half a sign; nothing
    ∷ (checked (changed signed_book 45 (0x41 ∷ [])) gives (1 ∷ 0 ∷ 0 ∷ []))
    ∷ (checked [] gives (1 ∷ 0 ∷ 0 ∷ []))
    -- an old book: empty, whole, cut off, damaged, of one byte
    ∷ (checked P1old gives (10 ∷ 0 ∷ 0 ∷ []))
    ∷ (checked P3old gives (10 ∷ 0 ∷ 0 ∷ []))
    ∷ (checked (take 43 P3old) gives (10 ∷ 0 ∷ 0 ∷ []))
    ∷ (checked (changed P3 0 (0x21 ∷ [])) gives (10 ∷ 0 ∷ 0 ∷ []))
    ∷ (checked (0x21 ∷ []) gives (10 ∷ 0 ∷ 0 ∷ []))
    -- versions that are none
    ∷ (checked (changed P3 0 (0x20 ∷ [])) gives (1 ∷ 0 ∷ 0 ∷ []))
    ∷ (checked (changed P3 0 (0x23 ∷ [])) gives (1 ∷ 0 ∷ 0 ∷ []))
    ∷ []

abbrev table : List Row
table = finding ++ naming ++ ranges ++ heads ++ checks

worked : failing 0 table ≡ []
unfolding be from_be allowed_bytes is_prefix is_name is_score valid range_start record_of record_name record_length framed
    count_of read_as scores peak peaks records_at offset offsets image_in entries_in read_in writing writing_image entry_bytes
    find found_in name_at name_of prefix_range head_length head_name check_book
worked = refl

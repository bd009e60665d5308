-- Worked cases of a merge: one table, one proposition.
use Rattle.std.specs.Prelude.{ℕ, ◌≡◌, refl, List, [], ◌++◌, ◌∷◌, length, replicate, take}
use Rattle.octets.specs.Octets.{be, from_be}
use Rattle.octets.specs.Table.{Row, ◌gives◌, failing}
use Rattle.octets.specs.Text.{text}
use Rattle.entries.specs.Entries.{Entry, entry, valid}
use Rattle.entries.specs.Names.{allowed_bytes, is_name, is_prefix, is_score, ohm}
use Rattle.book.specs.Records.{record_length, record_name, record_of}
use Rattle.answer.specs.Answers.{writing, writing_image}
use Rattle.book.specs.Book.{book_image, entries_in, image_in, offset, offsets, peak, peaks, read_in, records_at}
use Rattle.book.specs.Book.{scores}
use Rattle.frame.specs.Frame.{count_of, framed, read_as}
use Rattle.book.specs.Old.{P3old}
use Rattle.book.specs.Shown.{P1, P3, P4, P9, changed, crowd, full_name, half_name, kΩ, letters, shown_written, signed_book}
use Rattle.book.specs.Shown.{spare, µA, µF}
use Rattle.merge.specs.Joined.{joined, merge_books}

-- the course book: rc 20, rz 3; P3 is ac 5, rc 9, rc step 9, rl 12
abbrev course : List ℕ
course =
    0x22 ∷ 0x00 ∷ 0x00 ∷ 0x00 ∷ 0x18 ∷ 0x00 ∷ 0x02 ∷ 0x00 ∷ 0x00 ∷ 0x00 ∷ 20 ∷ 0x00 ∷ 0x00 ∷ 0x00 ∷ 3
    ∷ 0x00 ∷ 0 ∷ 0 ∷ 2 ∷ text "rc" ++ (1 ∷ 1 ∷ text "z")

-- the same in version 21
abbrev course_old : List ℕ
course_old =
    0x21 ∷ 0x00 ∷ 0x00 ∷ 0x00 ∷ 0x19 ∷ 0x00 ∷ 0x02 ∷ 0x00 ∷ 0x00 ∷ 0x00 ∷ 20 ∷ 0x00 ∷ 0x00 ∷ 0x00 ∷ 3
    ∷ 0x00 ∷ 0x13 ∷ 0x00 ∷ 0 ∷ 2 ∷ text "rc" ++ (1 ∷ 1 ∷ text "z")

-- both, with the course book's score of rc, which is then the peak
abbrev course_first : List ℕ
course_first =
    0x22 ∷ 0x00 ∷ 0x00 ∷ 0x00 ∷ 0x32 ∷ 0x00 ∷ 0x05 ∷ 0x00 ∷ 0x00 ∷ 0x00 ∷ 5 ∷ 0x00 ∷ 0x00 ∷ 0x00 ∷ 20
    ∷ 0x00 ∷ 0x00 ∷ 0x00 ∷ 9 ∷ 0x00 ∷ 0x00 ∷ 0x00 ∷ 12 ∷ 0x00 ∷ 0x00 ∷ 0x00 ∷ 3 ∷ 0x00 ∷ 1
    ∷ 0 ∷ 2 ∷ text "ac" ++ (0 ∷ 2 ∷ text "rc") ++ (2 ∷ 5 ∷ text " step") ++ (1 ∷ 1 ∷ text "l") ++ (1 ∷ 1 ∷ text "z")

-- names 1 to 8, and 47 and 48 letters x: P9 in two books
abbrev digits : List Entry
digits = letters 0x31 (replicate 8 0)

abbrev exes : List Entry
exes = entry (replicate 47 0x78) 0 ∷ entry (replicate 48 0x78) 0 ∷ []

abbrev merging : List Row
merging =
    -- a name of both: the first's score counts, whichever book that is, and the peak goes with it
    (shown_written (merge_books course P3 (spare 52)) gives (0 ∷ 5 ∷ 50 ∷ course_first ++ spare 2))
    ∷ (shown_written (merge_books P3 course (spare 50)) gives (0 ∷ 5 ∷ 50
    ∷ changed (changed course_first 14 (9 ∷ [])) 28 (3 ∷ [])))
    -- with bytes behind both books; a book with itself; with the empty one
    ∷ (shown_written (merge_books (course ++ spare 9) (P3 ++ spare 1) (spare 50)) gives (0 ∷ 5 ∷ 50 ∷ course_first))
    ∷ (shown_written (merge_books P3 P3 (spare 43)) gives (0 ∷ 4 ∷ 43 ∷ P3))
    ∷ (shown_written (merge_books P3 P1 (spare 43)) gives (0 ∷ 4 ∷ 43 ∷ P3))
    ∷ (shown_written (merge_books P1 P3 (spare 44)) gives (0 ∷ 4 ∷ 43 ∷ P3 ++ spare 1))
    ∷ (shown_written (merge_books P1 P1 (spare 7)) gives (0 ∷ 0 ∷ 7 ∷ P1))
    -- no name of both: the ten names of P9, 125 bytes
    ∷ (shown_written (merge_books (book_image digits) (book_image exes) (spare 125)) gives (0 ∷ 10 ∷ 125
    ∷ book_image P9))
    ∷ (shown_written (merge_books (book_image exes) (book_image digits) (spare 125)) gives (0 ∷ 10 ∷ 125
    ∷ book_image P9))
    ∷ []

-- names with µ and Ω: two books of which one has half of the names of the other
abbrev signs : List Row
signs =
    (shown_written (merge_books (book_image (entry µF 9 ∷ entry ohm 2 ∷ [])) (book_image (entry kΩ 7 ∷ entry µA 4
    ∷ entry µF 1 ∷ [])) (spare 46)) gives (0 ∷ 4 ∷ 46 ∷ signed_book))
    ∷ (shown_written (merge_books (book_image (entry full_name 1 ∷ [])) P1 (spare 63))
    gives (0 ∷ 1 ∷ 63 ∷ book_image (entry full_name 1 ∷ [])))
    ∷ (shown_written (merge_books P1 (book_image (entry half_name 1 ∷ [])) (spare 70)) gives (1 ∷ 0 ∷ 0 ∷ spare 70))
    ∷ (shown_written (merge_books signed_book (changed signed_book 45 (0x41 ∷ [])) (spare 60)) gives (1 ∷ 0 ∷ 0 ∷ spare 60))
    ∷ []

abbrev refusing : List Row
refusing =
    -- 7: one byte short
    (shown_written (merge_books course P3 (spare 49)) gives (7 ∷ 0 ∷ 0 ∷ spare 49))
    ∷ (shown_written (merge_books P3 P3 (spare 42)) gives (7 ∷ 0 ∷ 0 ∷ spare 42))
    ∷ (shown_written (merge_books P1 P1 (spare 6)) gives (7 ∷ 0 ∷ 0 ∷ spare 6))
    -- 1 before 7, for either book: cut off, a wrong peak, a trie, nothing
    ∷ (shown_written (merge_books (take 23 course) P3 (spare 60)) gives (1 ∷ 0 ∷ 0 ∷ spare 60))
    ∷ (shown_written (merge_books course (take 42 P3) (spare 60)) gives (1 ∷ 0 ∷ 0 ∷ spare 60))
    ∷ (shown_written (merge_books course (changed P3 24 (1 ∷ [])) []) gives (1 ∷ 0 ∷ 0 ∷ []))
    ∷ (shown_written (merge_books P4 P3 []) gives (1 ∷ 0 ∷ 0 ∷ []))
    ∷ (shown_written (merge_books P3 [] []) gives (1 ∷ 0 ∷ 0 ∷ []))
    ∷ (shown_written (merge_books [] P3 (spare 60)) gives (1 ∷ 0 ∷ 0 ∷ spare 60))
    -- 10 before 1 and 7, if either book is old, or both: whole, with a wrong peak, cut off, byte 0 alone
    ∷ (shown_written (merge_books course_old P3 (spare 60)) gives (10 ∷ 0 ∷ 0 ∷ spare 60))
    ∷ (shown_written (merge_books course P3old (spare 60)) gives (10 ∷ 0 ∷ 0 ∷ spare 60))
    ∷ (shown_written (merge_books course_old P3old (spare 60)) gives (10 ∷ 0 ∷ 0 ∷ spare 60))
    ∷ (shown_written (merge_books (changed P3old 26 (1 ∷ [])) course []) gives (10 ∷ 0 ∷ 0 ∷ []))
    ∷ (shown_written (merge_books course (take 43 P3old) []) gives (10 ∷ 0 ∷ 0 ∷ []))
    ∷ (shown_written (merge_books P1 (0x21 ∷ []) (spare 6)) gives (10 ∷ 0 ∷ 0 ∷ spare 6))
    ∷ (shown_written (merge_books (0x21 ∷ []) P1 (spare 7)) gives (10 ∷ 0 ∷ 0 ∷ spare 7))
    -- even if the other one gives 1, in both orders
    ∷ (shown_written (merge_books P3old (take 23 course) (spare 60)) gives (10 ∷ 0 ∷ 0 ∷ spare 60))
    ∷ (shown_written (merge_books (take 23 course) P3old (spare 60)) gives (10 ∷ 0 ∷ 0 ∷ spare 60))
    ∷ (shown_written (merge_books [] (0x21 ∷ []) []) gives (10 ∷ 0 ∷ 0 ∷ []))
    ∷ (shown_written (merge_books (0x21 ∷ []) [] []) gives (10 ∷ 0 ∷ 0 ∷ []))
    -- one more than 1,024 names, which gives 5, and 1,024 where one is of both; counted without reading a book of so
    -- many
    ∷ (length (joined (entry (text "zz") 1 ∷ []) (crowd 1024)) ∷ [] gives (1025 ∷ []))
    ∷ (length (joined (entry (text "00") 1 ∷ []) (crowd 1024)) ∷ [] gives (1024 ∷ []))
    ∷ []

abbrev table : List Row
table = merging ++ signs ++ refusing

worked : failing 0 table ≡ []
unfolding be from_be allowed_bytes is_prefix is_name is_score valid record_of record_name record_length framed count_of read_as
    scores peak peaks records_at offset offsets image_in entries_in read_in writing writing_image merge_books
worked = refl

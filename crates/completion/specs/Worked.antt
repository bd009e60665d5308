-- Worked cases of completion from a book and of its looks: one table, one proposition.
use Rattle.std.specs.Prelude.{ℕ, ◌≡◌, refl, List, [], ◌++◌, ◌∷◌, replicate, take}
use Rattle.octets.specs.Octets.{be, from_be}
use Rattle.octets.specs.Table.{Row, ◌gives◌, failing}
use Rattle.octets.specs.Text.{text}
use Rattle.entries.specs.Completion.{completion, max_count, range_start}
use Rattle.entries.specs.Entries.{Entry, entry, valid}
use Rattle.entries.specs.Names.{allowed_bytes, is_name, is_prefix, is_score, micro}
use Rattle.book.specs.Records.{record_length, record_name, record_of}
use Rattle.answer.specs.Answers.{entries_bytes, entry_bytes, writing}
use Rattle.book.specs.Book.{book_image, entries_in, image_in, offset, offsets, peak, peaks, read_in, records_at}
use Rattle.book.specs.Book.{scores}
use Rattle.frame.specs.Frame.{count_of, framed, read_as}
use Rattle.book.specs.Old.{P3old}
use Rattle.book.specs.Shown.{E, P1, P3, alternating, answer_entry, answer_for, changed, full_name, kΩ, letters}
use Rattle.book.specs.Shown.{nine_offered, shown_offered, signed_book, spare, µA, µF}
use Rattle.completion.specs.Complete.{complete_book, complete_book_within, complete_from}
use Rattle.completion.specs.Machine.{machine, most_looks, offering, open_range, others, parts}

-- the looks, then the positions offered
abbrev looks_at : List Entry → List ℕ → ℕ → List ℕ
looks_at es p k = (machine es p k).looks ∷ (machine es p k).offered

-- names a, b, c .. with these scores
abbrev scored : List ℕ → List Entry
scored ss = letters 0x61 ss

-- 18 names; the third in rank stands in the second block
abbrev eighteen : List Entry
eighteen = scored (0 ∷ 1 ∷ 2 ∷ 5 ∷ 0 ∷ 5 ∷ replicate 10 0 ++ (1 ∷ 3 ∷ []))

abbrev looking : List Row
looking =
    -- scores 1, 9, 1: the range, and unless k is 1 both its parts
    (looks_at (scored (1 ∷ 9 ∷ 1 ∷ [])) [] 1 gives (1 ∷ 1 ∷ []))
    ∷ (looks_at (scored (1 ∷ 9 ∷ 1 ∷ [])) [] 2 gives (3 ∷ 1 ∷ 0 ∷ []))
    ∷ (looks_at (scored (1 ∷ 9 ∷ 1 ∷ [])) [] 3 gives (3 ∷ 1 ∷ 0 ∷ 2 ∷ []))
    ∷ (looks_at (scored (1 ∷ 9 ∷ 1 ∷ [])) [] max_count gives (3 ∷ 1 ∷ 0 ∷ 2 ∷ []))
    -- rising scores: one part each time, and the k-th is not replaced
    ∷ (looks_at (scored (1 ∷ 2 ∷ 3 ∷ 4 ∷ [])) [] 2 gives (2 ∷ 3 ∷ 2 ∷ []))
    ∷ (looks_at (scored (1 ∷ 2 ∷ 3 ∷ 4 ∷ [])) [] 3 gives (3 ∷ 3 ∷ 2 ∷ 1 ∷ []))
    -- two parts each time: 2 × k − 1
    ∷ (looks_at (scored (1 ∷ 8 ∷ 1 ∷ 9 ∷ 1 ∷ 7 ∷ 1 ∷ [])) [] 3 gives (5 ∷ 3 ∷ 1 ∷ 5 ∷ []))
    ∷ (looks_at (scored (1 ∷ 8 ∷ 1 ∷ 9 ∷ 1 ∷ 7 ∷ 1 ∷ [])) [] 4 gives (7 ∷ 3 ∷ 1 ∷ 5 ∷ 0 ∷ []))
    ∷ (looks_at (scored (1 ∷ 8 ∷ 1 ∷ 9 ∷ 1 ∷ 7 ∷ 1 ∷ [])) [] 7 gives (7 ∷ 3 ∷ 1 ∷ 5 ∷ 0 ∷ 2 ∷ 4 ∷ 6 ∷ []))
    -- the most looks that there can be, and a machine that takes them
    ∷ (most_looks max_count ∷ looks_at alternating [] max_count
    gives (17 ∷ 17 ∷ 1 ∷ 3 ∷ 5 ∷ 7 ∷ 9 ∷ 11 ∷ 13 ∷ 15 ∷ 17 ∷ []))
    -- equal scores: the earlier name, within a range and of two ranges
    ∷ (looks_at (scored (3 ∷ 3 ∷ 3 ∷ [])) [] 2 gives (2 ∷ 0 ∷ 1 ∷ []))
    ∷ (looks_at (scored (5 ∷ 9 ∷ 7 ∷ 9 ∷ 5 ∷ [])) [] 4 gives (5 ∷ 1 ∷ 3 ∷ 2 ∷ 0 ∷ []))
    -- the matching positions alone: none, one, those from 1 to 3
    ∷ (looks_at E (text "q") 5 gives (0 ∷ []))
    ∷ (looks_at E (text "rc step") 5 gives (1 ∷ 2 ∷ []))
    ∷ (looks_at E (text "r") 2 gives (2 ∷ 3 ∷ 1 ∷ []))
    ∷ (looks_at E (text "r") 3 gives (3 ∷ 3 ∷ 1 ∷ 2 ∷ []))
    ∷ []

abbrev completing : List Row
completing =
    -- ranked, into 3 × 53 bytes of which 26 are written, from a book with bytes behind it
    (shown_offered (complete_book (P3 ++ spare 3) (text "r") 3 (spare 159) 3)
    gives (0 ∷ 3 ∷ 26 ∷ 3 ∷ answer_entry "rl" 12 ++ answer_entry "rc" 9 ++ answer_entry "rc step" 9 ++ spare 133))
    -- a name completes itself; the empty prefix begins every name; more bytes and ranges than needed
    ∷ (shown_offered (complete_book P3 (text "rc step") 1 (spare 53) 1)
    gives (0 ∷ 1 ∷ 12 ∷ 1 ∷ answer_entry "rc step" 9 ++ spare 41))
    ∷ (shown_offered (complete_book P3 [] 1 (spare 60) 9) gives (0 ∷ 1 ∷ 7 ∷ 1 ∷ answer_entry "rl" 12 ++ spare 53))
    -- equal scores by the earlier name
    ∷ (shown_offered (complete_book (book_image (scored (3 ∷ 3 ∷ 4 ∷ 3 ∷ []))) [] 3 (spare 159) 3)
    gives (0 ∷ 3 ∷ 18 ∷ 4 ∷ answer_entry "c" 4 ++ answer_entry "a" 3 ++ answer_entry "b" 3 ++ spare 141))
    -- two blocks
    ∷ (shown_offered (complete_book (book_image eighteen) [] 3 (spare 159) 3)
    gives (0 ∷ 3 ∷ 18 ∷ 5 ∷ answer_entry "d" 5 ++ answer_entry "f" 5 ++ answer_entry "r" 3 ++ spare 141))
    -- µ and Ω
    ∷ (shown_offered (complete_book signed_book micro 5 (spare 265) 5)
    gives (0 ∷ 2 ∷ 16 ∷ 2 ∷ answer_for µF 9 ++ answer_for µA 4 ++ spare 249))
    ∷ (shown_offered (complete_book signed_book kΩ 1 (spare 53) 1) gives (0 ∷ 1 ∷ 12 ∷ 1 ∷ answer_for kΩ 7 ++ spare 41))
    ∷ (shown_offered (complete_book signed_book [] 2 (spare 106) 2)
    gives (0 ∷ 2 ∷ 20 ∷ 3 ∷ answer_for µF 9 ++ answer_for kΩ 7 ++ spare 86))
    ∷ (shown_offered (complete_book (book_image (entry full_name 1 ∷ [])) full_name 1 (spare 53) 1)
    gives (0 ∷ 1 ∷ 53 ∷ 1 ∷ answer_for full_name 1))
    -- nine of nineteen; under the limit 16 the same
    ∷ (shown_offered (complete_book (book_image alternating) [] 9 (spare 477) 9)
    gives (0 ∷ 9 ∷ 54 ∷ 17 ∷ nine_offered ++ spare 423))
    ∷ (shown_offered (complete_book_within 16 (book_image alternating) [] 9 (spare 477) 9)
    gives (0 ∷ 9 ∷ 54 ∷ 17 ∷ nine_offered ++ spare 423))
    -- none offered
    ∷ (shown_offered (complete_book P1 [] 2 (spare 106) 2) gives (0 ∷ 0 ∷ 0 ∷ 0 ∷ spare 106))
    ∷ (shown_offered (complete_book P3 (replicate 48 0x72) 1 (spare 53) 1) gives (0 ∷ 0 ∷ 0 ∷ 0 ∷ spare 53))
    ∷ []

abbrev refusing : List Row
refusing =
    -- 7: one byte short of 53 × k, or one range short of k, whatever is offered
    (shown_offered (complete_book P3 (text "rl") 1 (spare 52) 1) gives (7 ∷ 0 ∷ 0 ∷ 0 ∷ spare 52))
    ∷ (shown_offered (complete_book P3 (text "rl") 1 (spare 53) 0) gives (7 ∷ 0 ∷ 0 ∷ 0 ∷ spare 53))
    ∷ (shown_offered (complete_book P3 (text "q") 2 (spare 105) 2) gives (7 ∷ 0 ∷ 0 ∷ 0 ∷ spare 105))
    ∷ (shown_offered (complete_book P3 (text "q") 2 (spare 106) 1) gives (7 ∷ 0 ∷ 0 ∷ 0 ∷ spare 106))
    -- 3 before 7: k is 0, 10, 16, and 257, which is no 1; under the limit 16 it is 17
    ∷ (shown_offered (complete_book P3 [] 0 (spare 4) 0) gives (3 ∷ 0 ∷ 0 ∷ 0 ∷ spare 4))
    ∷ (shown_offered (complete_book P3 [] 10 (spare 530) 10) gives (3 ∷ 0 ∷ 0 ∷ 0 ∷ spare 530))
    ∷ (shown_offered (complete_book P3 [] 10 [] 0) gives (3 ∷ 0 ∷ 0 ∷ 0 ∷ []))
    ∷ (shown_offered (complete_book P3 [] 16 (spare 848) 16) gives (3 ∷ 0 ∷ 0 ∷ 0 ∷ spare 848))
    ∷ (shown_offered (complete_book P3 [] 257 [] 0) gives (3 ∷ 0 ∷ 0 ∷ 0 ∷ []))
    ∷ (shown_offered (complete_book_within 16 P1 [] 16 (spare 848) 16) gives (0 ∷ 0 ∷ 0 ∷ 0 ∷ spare 848))
    ∷ (shown_offered (complete_book_within 16 P1 [] 17 (spare 901) 17) gives (3 ∷ 0 ∷ 0 ∷ 0 ∷ spare 901))
    -- k is 9, and 9 with one byte or one range short
    ∷ (shown_offered (complete_book P1 [] 9 (spare 477) 9) gives (0 ∷ 0 ∷ 0 ∷ 0 ∷ spare 477))
    ∷ (shown_offered (complete_book P1 [] 9 (spare 476) 9) gives (7 ∷ 0 ∷ 0 ∷ 0 ∷ spare 476))
    ∷ (shown_offered (complete_book P1 [] 9 (spare 477) 8) gives (7 ∷ 0 ∷ 0 ∷ 0 ∷ spare 477))
    -- 2 before 3 and 7
    ∷ (shown_offered (complete_book P3 (replicate 49 0x72) 1 (spare 53) 1) gives (2 ∷ 0 ∷ 0 ∷ 0 ∷ spare 53))
    ∷ (shown_offered (complete_book P3 (0x1F ∷ []) 0 [] 0) gives (2 ∷ 0 ∷ 0 ∷ 0 ∷ []))
    ∷ (shown_offered (complete_book signed_book (0xC2 ∷ []) 0 [] 0) gives (2 ∷ 0 ∷ 0 ∷ 0 ∷ []))
    ∷ (shown_offered (complete_book P3 (replicate 47 0x72 ++ (0xC2 ∷ [])) 1 (spare 53) 1)
    gives (2 ∷ 0 ∷ 0 ∷ 0 ∷ spare 53))
    -- 1 before these
    ∷ (shown_offered (complete_book (take 42 P3) (0x1F ∷ []) 0 [] 0) gives (1 ∷ 0 ∷ 0 ∷ 0 ∷ []))
    ∷ (shown_offered (complete_book (changed P3 24 (1 ∷ [])) [] 1 (spare 53) 1) gives (1 ∷ 0 ∷ 0 ∷ 0 ∷ spare 53))
    -- an old book, whole, cut off, damaged and of one byte: 10 before all; an empty buffer is no book
    ∷ (shown_offered (complete_book P3old (text "r") 1 (spare 53) 1) gives (10 ∷ 0 ∷ 0 ∷ 0 ∷ spare 53))
    ∷ (shown_offered (complete_book (take 43 P3old) (text "r") 1 (spare 53) 1) gives (10 ∷ 0 ∷ 0 ∷ 0 ∷ spare 53))
    ∷ (shown_offered (complete_book (changed P3 0 (0x21 ∷ [])) [] 10 [] 0) gives (10 ∷ 0 ∷ 0 ∷ 0 ∷ []))
    ∷ (shown_offered (complete_book (0x21 ∷ []) (0x1F ∷ []) 0 [] 0) gives (10 ∷ 0 ∷ 0 ∷ 0 ∷ []))
    ∷ (shown_offered (complete_book [] (0x1F ∷ []) 0 [] 0) gives (1 ∷ 0 ∷ 0 ∷ 0 ∷ []))
    ∷ []

abbrev table : List Row
table = looking ++ completing ++ refusing

worked : failing 0 table ≡ []
unfolding be from_be allowed_bytes is_prefix is_name is_score valid completion range_start record_of record_name record_length
    framed count_of read_as scores peak peaks records_at offset offsets image_in entries_in read_in writing entry_bytes
    entries_bytes open_range others parts offering machine complete_from
worked = refl

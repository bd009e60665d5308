-- The cases that document 01 marks P1 to P10, and the unmarked line behind them ("Shown on the bench"): one table,
-- shown to agree with the definitions by one proposition. The books are worked again for version 22 (document 02,
-- request f); as printed, for version 21, they are worked in `Rattle.book.specs.Old`. E, the images P1 to P4 and the
-- entries of P9 and P10 are written out in `Rattle.book.specs.Shown`.
use Rattle.std.specs.Prelude.{ℕ, ◌≡◌, refl, List, [], ◌++◌, ◌∷◌, length, replicate, take}
use Rattle.octets.specs.Lists.{concat_map, count_from}
use Rattle.octets.specs.Octets.{be, from_be}
use Rattle.octets.specs.Table.{Row, ◌gives◌, failing}
use Rattle.octets.specs.Text.{text}
use Rattle.entries.specs.Completion.{completion, range_start}
use Rattle.entries.specs.Entries.{Entry, entry, valid}
use Rattle.entries.specs.Names.{allowed_bytes, is_name, is_prefix, is_score}
use Rattle.book.specs.Records.{record_length, record_name, record_of}
use Rattle.answer.specs.Answers.{entries_bytes, entry_bytes, writing, writing_image}
use Rattle.book.specs.Book.{book_image, entries_in, image_in, offset, offsets, peak, peaks, read_book, read_in, records_at}
use Rattle.book.specs.Book.{scores}
use Rattle.frame.specs.Frame.{count_of, framed, read_as}
use Rattle.book.specs.Shown.{E, P1, P10, P2, P3, P4, P9, answer_entry, letters, listed, shown_offered}
use Rattle.book.specs.Shown.{shown_read, shown_written, spare}
use Rattle.edit.specs.Edits.{empty_book, set_entry, withdraw_entry}
use Rattle.completion.specs.Complete.{complete_book, complete_from}
use Rattle.completion.specs.Machine.{machine, offering, open_range, others, parts}
use Rattle.trie.specs.Calls.{complete_trie, complete_trie_within, write_trie}
use Rattle.trie.specs.Reading.{behind_sibling, child_size, label_length, last_mark, read_trie, score_size, sibling_of}
use Rattle.trie.specs.Reading.{trie_entries}
use Rattle.trie.specs.Trie.{group_bytes, header_byte, node_bytes, node_of, other_bytes, trie_image}
use Rattle.ledger.specs.History.{buffers_after, call_step, started}
use Rattle.ledger.specs.Ledger.{Edit, ledger_answer, set_name, withdraw_name}

-- sets that make E, in an order that is not name order, on two buffers of 60 bytes
abbrev sets_of_e : List Edit
sets_of_e = set_name (text "rl") 12 ∷ set_name (text "ac") 5 ∷ set_name (text "rc step") 9 ∷ set_name (text "rc") 9 ∷ []

-- the book at the front of the buffer that the last accepted call wrote
abbrev left_by : List Edit → List ℕ
left_by h = (buffers_after h (started (spare 60) (spare 60))).book

-- P8: scores 1, 9, 1
abbrev P8 : List Entry
P8 = letters 0x61 (1 ∷ 9 ∷ 1 ∷ [])

-- the books of P9 and P10: each name but the last shares nothing with the one before it
abbrev pub P9book : List ℕ
P9book =
    (0x22 ∷ 0x00 ∷ 0x00 ∷ 0x00 ∷ 125 ∷ 0x00 ∷ 10 ∷ replicate 40 0x00)
    ++ (0x00 ∷ 0 ∷ [])
    ++ concat_map (λ c. 0 ∷ 1 ∷ c ∷ []) (count_from 0x31 8)
    ++ (0 ∷ 47 ∷ replicate 47 0x78)
    ++ (47 ∷ 1 ∷ 0x78 ∷ [])

abbrev pub P10book : List ℕ
P10book =
    (0x22 ∷ 0x00 ∷ 0x00 ∷ 0x00 ∷ 118 ∷ 0x00 ∷ 9 ∷ replicate 36 0x00)
    ++ (0x00 ∷ 0 ∷ [])
    ++ concat_map (λ c. 0 ∷ 1 ∷ c ∷ []) (count_from 0x32 7)
    ++ (0 ∷ 47 ∷ replicate 47 0x78)
    ++ (47 ∷ 1 ∷ 0x78 ∷ [])

-- the ledger's answer as numbers: the refusal or 0, then the counts
abbrev ledger_says : ℕ → Edit → List Entry → List ℕ
ledger_says L c es = shown_written (record { answer = ledger_answer L c es; dest = [] })

abbrev images : List Row
images =
    -- P1
    (book_image [] gives P1)
    ∷ (shown_written (empty_book (spare 7)) gives (0 ∷ 0 ∷ 7 ∷ P1))
    ∷ (shown_read (read_book P1) gives listed [])
    -- P2
    ∷ (trie_image [] gives P2)
    ∷ (shown_written (write_trie P1 (spare 7)) gives (0 ∷ 0 ∷ 7 ∷ P2))
    ∷ (shown_read (read_trie P2) gives listed [])
    -- P3, also as the book that sets leave
    ∷ (book_image E gives P3)
    ∷ (shown_read (read_book P3) gives listed E)
    ∷ (take 43 (left_by sets_of_e) gives P3)
    -- P4
    ∷ (trie_image E gives P4)
    ∷ (shown_written (write_trie P3 (spare 28)) gives (0 ∷ 4 ∷ 28 ∷ P4))
    ∷ (shown_read (read_trie P4) gives listed E)
    ∷ []

abbrev completions : List Row
completions =
    -- P5, from the book and from the trie
    (shown_offered (complete_book P3 (text "r") 2 (spare 106) 2)
    gives (0 ∷ 2 ∷ 14 ∷ 2 ∷ answer_entry "rl" 12 ++ answer_entry "rc" 9 ++ spare 92))
    ∷ (shown_offered (complete_trie P4 (text "r") 2 (spare 106))
    gives (0 ∷ 2 ∷ 14 ∷ 0 ∷ answer_entry "rl" 12 ++ answer_entry "rc" 9 ++ spare 92))
    -- P6
    ∷ (shown_offered (complete_book P3 (text "rc") 5 (spare 265) 5)
    gives (0 ∷ 2 ∷ 19 ∷ 2 ∷ answer_entry "rc" 9 ++ answer_entry "rc step" 9 ++ spare 246))
    ∷ (shown_offered (complete_trie P4 (text "rc") 5 (spare 265))
    gives (0 ∷ 2 ∷ 19 ∷ 0 ∷ answer_entry "rc" 9 ++ answer_entry "rc step" 9 ++ spare 246))
    -- P7
    ∷ (shown_offered (complete_book P3 (text "q") 5 (spare 265) 5) gives (0 ∷ 0 ∷ 0 ∷ 0 ∷ spare 265))
    ∷ (shown_offered (complete_trie P4 (text "q") 5 (spare 265)) gives (0 ∷ 0 ∷ 0 ∷ 0 ∷ spare 265))
    -- P8
    ∷ (shown_offered (complete_book (book_image P8) [] 2 (spare 106) 2)
    gives (0 ∷ 2 ∷ 12 ∷ 3 ∷ answer_entry "b" 9 ++ answer_entry "a" 1 ++ spare 94))
    ∷ []

abbrev lengths : List Row
lengths =
    -- P9
    (book_image P9 gives P9book)
    ∷ (length P9book ∷ [] gives (125 ∷ []))
    -- P10
    ∷ (book_image P10 gives P10book)
    ∷ (length P10book ∷ [] gives (118 ∷ []))
    -- P10 by a withdrawal from P9: in 130 bytes, in the 125 of P9 and in 118 it is accepted, in 117 it gives 7
    ∷ (shown_written (withdraw_entry P9book (text "1") (spare 130)) gives (0 ∷ 9 ∷ 118 ∷ P10book ++ spare 12))
    ∷ (shown_written (withdraw_entry P9book (text "1") (spare 125)) gives (0 ∷ 9 ∷ 118 ∷ P10book ++ spare 7))
    ∷ (shown_written (withdraw_entry P9book (text "1") (spare 118)) gives (0 ∷ 9 ∷ 118 ∷ P10book))
    ∷ (shown_written (withdraw_entry P9book (text "1") (spare 117)) gives (7 ∷ 0 ∷ 0 ∷ spare 117))
    ∷ (ledger_says 130 (withdraw_name (text "1")) P9 gives (0 ∷ 9 ∷ 118 ∷ []))
    ∷ (ledger_says 125 (withdraw_name (text "1")) P9 gives (0 ∷ 9 ∷ 118 ∷ []))
    ∷ (ledger_says 118 (withdraw_name (text "1")) P9 gives (0 ∷ 9 ∷ 118 ∷ []))
    ∷ (ledger_says 117 (withdraw_name (text "1")) P9 gives (7 ∷ 0 ∷ 0 ∷ []))
    ∷ []

abbrev bounds : List Row
bounds =
    -- a name of 48 bytes is accepted, 49 gives 2
    (shown_written (set_entry P1 (replicate 48 0x78) 1 (spare 63))
    gives (0 ∷ 1 ∷ 63 ∷ 0x22 ∷ 0x00 ∷ 0x00 ∷ 0x00 ∷ 63 ∷ 0x00 ∷ 1 ∷ 0x00 ∷ 0x00 ∷ 0x00 ∷ 1 ∷ 0x00 ∷ 0 ∷ 0 ∷ 48
    ∷ replicate 48 0x78))
    ∷ (shown_written (set_entry P1 (replicate 49 0x78) 1 (spare 64)) gives (2 ∷ 0 ∷ 0 ∷ spare 64))
    ∷ (ledger_says 63 (set_name (replicate 48 0x78) 1) [] gives (0 ∷ 1 ∷ 63 ∷ []))
    ∷ (ledger_says 64 (set_name (replicate 49 0x78) 1) [] gives (2 ∷ 0 ∷ 0 ∷ []))
    -- a prefix likewise
    ∷ (shown_offered (complete_book P3 (replicate 48 0x78) 1 (spare 53) 1) gives (0 ∷ 0 ∷ 0 ∷ 0 ∷ spare 53))
    ∷ (shown_offered (complete_book P3 (replicate 49 0x78) 1 (spare 53) 1) gives (2 ∷ 0 ∷ 0 ∷ 0 ∷ spare 53))
    -- k 9 is accepted, 10 gives 3 (document 02, request d)
    ∷ (shown_offered (complete_book P3 (text "rl") 9 (spare 477) 9)
    gives (0 ∷ 1 ∷ 7 ∷ 1 ∷ answer_entry "rl" 12 ++ spare 470))
    ∷ (shown_offered (complete_book P3 (text "rl") 10 (spare 530) 10) gives (3 ∷ 0 ∷ 0 ∷ 0 ∷ spare 530))
    ∷ (shown_offered (complete_trie P4 (text "rl") 9 (spare 477))
    gives (0 ∷ 1 ∷ 7 ∷ 0 ∷ answer_entry "rl" 12 ++ spare 470))
    ∷ (shown_offered (complete_trie P4 (text "rl") 10 (spare 530)) gives (3 ∷ 0 ∷ 0 ∷ 0 ∷ spare 530))
    -- a 7-byte lone name is one node, 8 bytes two
    ∷ (trie_image (entry (text "abcdefg") 0 ∷ [])
    gives (0x31 ∷ 0x00 ∷ 0x00 ∷ 0x00 ∷ 15 ∷ 0x00 ∷ 1 ∷ 0x0F ∷ text "abcdefg"))
    ∷ (trie_image (entry (text "abcdefgh") 0 ∷ [])
    gives (0x31 ∷ 0x00 ∷ 0x00 ∷ 0x00 ∷ 18 ∷ 0x00 ∷ 1 ∷ 0x1F ∷ 0x09 ∷ text "abcdefg" ++ (0x09 ∷ text "h")))
    ∷ []

abbrev pub table : List Row
table = images ++ completions ++ lengths ++ bounds

-- every marked case agrees with the definitions
pub marked : failing 0 table ≡ []
unfolding be from_be allowed_bytes is_prefix is_name is_score valid completion range_start record_of record_name record_length
    framed count_of read_as scores peak peaks records_at offset offsets image_in entries_in read_in writing writing_image
    entry_bytes entries_bytes empty_book set_entry withdraw_entry open_range others parts offering machine
    complete_from header_byte node_bytes other_bytes group_bytes node_of trie_image score_size child_size last_mark
    label_length sibling_of behind_sibling trie_entries read_trie write_trie complete_trie_within ledger_answer call_step
marked = refl

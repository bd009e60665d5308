-- Worked cases of the ledger and of a history on two buffers: one table, one proposition. The marked cases are in
-- `Marked`.
use Rattle.std.specs.Prelude.{ℕ, ◌≡◌, refl, List, [], ◌++◌, ◌∷◌, drop, take}
use Rattle.octets.specs.Lists.{concat_map}
use Rattle.octets.specs.Octets.{be, from_be}
use Rattle.octets.specs.Table.{Row, ◌gives◌, failing}
use Rattle.octets.specs.Text.{text}
use Rattle.entries.specs.Entries.{entry, valid}
use Rattle.entries.specs.Names.{allowed_bytes, is_name, is_prefix, is_score, ohm}
use Rattle.book.specs.Records.{record_length, record_name, record_of}
use Rattle.answer.specs.Answers.{Answer, WrittenCounts, writing, writing_image}
use Rattle.book.specs.Book.{entries_in, image_in, offset, offsets, peak, peaks, read_in, records_at}
use Rattle.book.specs.Book.{scores}
use Rattle.frame.specs.Frame.{count_of, framed, read_as}
use Rattle.book.specs.Shown.{E, P1, P3, changed, crowd, full_name, half_name, kΩ, listed, shown_written, signed_book}
use Rattle.book.specs.Shown.{spare, µA, µF}
use Rattle.edit.specs.Edits.{empty_book, set_entry, withdraw_entry}
use Rattle.ledger.specs.History.{answers, buffers_after, call_step, started}
use Rattle.ledger.specs.Ledger.{Edit, held, ledger_answer, ledger_answers, ledger_step, set_name, withdraw_name}

-- an answer as numbers: the refusal or 0, then the counts
abbrev shown_answer : Answer WrittenCounts → List ℕ
shown_answer a = shown_written (record { answer = a; dest = [] })

-- E is set, name by name, into 43 bytes, which P3 fills; three calls are refused; then the best score falls
abbrev history : List Edit
history =
    set_name (text "ac") 5
    ∷ set_name (text "rc") 9
    ∷ set_name (text "rc step") 9
    ∷ set_name (text "rl") 12
    ∷ set_name (text "rm") 1
    ∷ withdraw_name (text "rm")
    ∷ set_name (text "rm\u{7f}") 1
    ∷ set_name (text "rl") 8
    ∷ []

abbrev answered : List ℕ
answered =
    0 ∷ 1 ∷ 17
    ∷ 0 ∷ 2 ∷ 25
    ∷ 0 ∷ 3 ∷ 36
    ∷ 0 ∷ 4 ∷ 43
    ∷ 7 ∷ 0 ∷ 0
    ∷ 4 ∷ 0 ∷ 0
    ∷ 2 ∷ 0 ∷ 0
    ∷ 0 ∷ 4 ∷ 43 ∷ []

-- the buffers after a number of its calls: the one that the last accepted call wrote, then the other
abbrev buffers : ℕ → List ℕ
buffers n =
    (buffers_after (take n history) (started (spare 43) (spare 43))).book
    ++ (buffers_after (take n history) (started (spare 43) (spare 43))).other

abbrev histories : List Row
histories =
    -- every answer, of the calls and of the ledger
    (concat_map shown_answer (answers history (started (spare 43) (spare 43))) gives answered)
    ∷ (concat_map shown_answer (ledger_answers 43 history []) gives answered)
    -- the entries held
    ∷ (listed (held 43 (take 7 history) []) gives listed E)
    ∷ (listed (held 43 history [])
    gives listed (entry (text "ac") 5 ∷ entry (text "rc") 9 ∷ entry (text "rc step") 9 ∷ entry (text "rl") 8 ∷ []))
    -- the buffers at the start, and after the first call: the roles are changed
    ∷ (buffers 0 gives ((P1 ++ spare 36) ++ spare 43))
    ∷ (drop 43 (buffers 1) gives (P1 ++ spare 36))
    -- three refused calls change neither buffer; the last call leaves P3 in the other
    ∷ (take 43 (buffers 4) gives P3)
    ∷ (buffers 7 gives buffers 4)
    ∷ (buffers 8 gives (changed (changed P3 22 (8 ∷ [])) 24 (1 ∷ []) ++ P3))
    ∷ []

-- names with µ and Ω; half a sign, in a set and in a withdrawal, is refused and changes nothing
abbrev sign_history : List Edit
sign_history =
    set_name ohm 2
    ∷ set_name µA 4
    ∷ set_name (0xC2 ∷ []) 1
    ∷ set_name kΩ 7
    ∷ withdraw_name (text "4.7 k" ++ (0xCE ∷ []))
    ∷ set_name µF 1
    ∷ set_name µF 9
    ∷ []

abbrev sign_answers : List ℕ
sign_answers =
    0 ∷ 1 ∷ 17
    ∷ 0 ∷ 2 ∷ 26
    ∷ 2 ∷ 0 ∷ 0
    ∷ 0 ∷ 3 ∷ 39
    ∷ 2 ∷ 0 ∷ 0
    ∷ 0 ∷ 4 ∷ 46
    ∷ 0 ∷ 4 ∷ 46 ∷ []

abbrev signs : List Row
signs =
    (concat_map shown_answer (answers sign_history (started (spare 46) (spare 46))) gives sign_answers)
    ∷ (concat_map shown_answer (ledger_answers 46 sign_history []) gives sign_answers)
    ∷ ((buffers_after sign_history (started (spare 46) (spare 46))).book gives signed_book)
    ∷ (shown_answer (ledger_answer 63 (set_name full_name 1) []) gives (0 ∷ 1 ∷ 63 ∷ []))
    ∷ (shown_answer (ledger_answer 63 (set_name half_name 1) []) gives (2 ∷ 0 ∷ 0 ∷ []))
    ∷ (shown_answer (ledger_answer 63 (withdraw_name half_name) []) gives (2 ∷ 0 ∷ 0 ∷ []))
    ∷ []

abbrev limits : List Row
limits =
    -- with 1,024 held: 5 for a new name, before 7; 2 before 5; a held name gets a new score, or 7
    (shown_answer (ledger_answer 57344 (set_name (text "zz") 1) (crowd 1024)) gives (5 ∷ 0 ∷ 0 ∷ []))
    ∷ (shown_answer (ledger_answer 7 (set_name (text "zz") 1) (crowd 1024)) gives (5 ∷ 0 ∷ 0 ∷ []))
    ∷ (shown_answer (ledger_answer 7 (set_name [] 1) (crowd 1024)) gives (2 ∷ 0 ∷ 0 ∷ []))
    ∷ (shown_answer (ledger_answer 7 (set_name (text "00") 1) (crowd 1024)) gives (7 ∷ 0 ∷ 0 ∷ []))
    ∷ (shown_answer (ledger_answer 57344 (set_name (text "00") 1) (crowd 1024)) gives (0 ∷ 1024 ∷ 7319 ∷ []))
    -- with 1,023 held: a new name is accepted
    ∷ (shown_answer (ledger_answer 57344 (set_name (text "zz") 1) (crowd 1023)) gives (0 ∷ 1024 ∷ 7320 ∷ []))
    -- a withdrawal of a name not held: 4 before 7; of a held one, in bytes that could not hold E
    ∷ (shown_answer (ledger_answer 7 (withdraw_name (text "zz")) E) gives (4 ∷ 0 ∷ 0 ∷ []))
    ∷ (shown_answer (ledger_answer 7 (withdraw_name (text "rc")) E) gives (7 ∷ 0 ∷ 0 ∷ []))
    -- in the 43 of E it is accepted
    ∷ (shown_answer (ledger_answer 43 (withdraw_name (text "rc")) E) gives (0 ∷ 3 ∷ 37 ∷ []))
    ∷ []

abbrev table : List Row
table = histories ++ signs ++ limits

worked : failing 0 table ≡ []
unfolding be from_be allowed_bytes is_prefix is_name is_score valid record_of record_name record_length framed count_of read_as
    scores peak peaks records_at offset offsets image_in entries_in read_in writing writing_image empty_book set_entry
    withdraw_entry ledger_answer ledger_step call_step
worked = refl

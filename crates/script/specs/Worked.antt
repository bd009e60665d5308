-- Worked cases of a script and of its run: one table, one proposition.
use Rattle.std.specs.Prelude.{ℕ, ◌≡◌, refl, List, [], ◌++◌, ◌∷◌, replicate, take}
use Rattle.octets.specs.Lists.{if◌then◌otherwise◌}
use Rattle.octets.specs.Octets.{be, from_be, number_at}
use Rattle.octets.specs.Table.{Row, ◌gives◌, failing}
use Rattle.octets.specs.Text.{text}
use Rattle.entries.specs.Entries.{entry, valid}
use Rattle.entries.specs.Names.{allowed_bytes, is_name, is_prefix, is_score, ohm}
use Rattle.book.specs.Records.{record_length, record_name, record_of}
use Rattle.answer.specs.Answers.{counts, none_played, number, writing, writing_image}
use Rattle.book.specs.Book.{entries_in, image_in, offset, offsets, peak, peaks, read_in, records_at}
use Rattle.book.specs.Book.{scores}
use Rattle.frame.specs.Frame.{count_of, framed, read_as}
use Rattle.book.specs.Shown.{P1, full_name, half_name, spare}
use Rattle.edit.specs.Edits.{empty_book, set_entry, withdraw_entry}
use Rattle.script.specs.Run.{Finish, bench_step, run_of}
use Rattle.script.specs.Script.{answer_bytes, call_at, calls, is_call}

-- a run as numbers: the refusal or 0, the calls, whether the second buffer holds the book, then every lent byte
abbrev shown_run : Finish → List ℕ
shown_run f =
    number f.answer
    ∷ (counts none_played f.answer).calls
    ∷ (if (counts none_played f.answer).turned then 1 otherwise 0)
    ∷ f.first ++ (f.second ++ f.out)

abbrev set_ac : List ℕ
set_ac = 0x00 ∷ 0x00 ∷ 0x00 ∷ 0x00 ∷ 5 ∷ 0x00 ∷ 2 ∷ text "ac"

-- its score is not looked at
abbrev withdraw_zz : List ℕ
withdraw_zz = 0x01 ∷ 0xEE ∷ 0xEE ∷ 0xEE ∷ 0xEE ∷ 0x00 ∷ 2 ∷ text "zz"

abbrev withdraw_ac : List ℕ
withdraw_ac = 0x01 ∷ 0x00 ∷ 0x00 ∷ 0x00 ∷ 0 ∷ 0x00 ∷ 2 ∷ text "ac"

-- the book of ac 5, in 17 bytes
abbrev ac_book : List ℕ
ac_book = 0x22 ∷ 0x00 ∷ 0x00 ∷ 0x00 ∷ 17 ∷ 0x00 ∷ 1 ∷ 0x00 ∷ 0x00 ∷ 0x00 ∷ 5 ∷ 0x00 ∷ 0 ∷ 0 ∷ 2 ∷ text "ac"

-- the same of Ω, and a set of half of it
abbrev set_ohm : List ℕ
set_ohm = 0x00 ∷ 0x00 ∷ 0x00 ∷ 0x00 ∷ 5 ∷ 0x00 ∷ 2 ∷ ohm

abbrev set_half : List ℕ
set_half = 0x00 ∷ 0x00 ∷ 0x00 ∷ 0x00 ∷ 5 ∷ 0x00 ∷ 1 ∷ 0xCE ∷ []

-- the answers that are kept: a book of one entry in 17 bytes, the empty book, a refusal
abbrev one_entry : List ℕ
one_entry = 0 ∷ 0x00 ∷ 1 ∷ 0x00 ∷ 0x00 ∷ 0x00 ∷ 17 ∷ []

abbrev no_entries : List ℕ
no_entries = 0 ∷ 0x00 ∷ 0 ∷ 0x00 ∷ 0x00 ∷ 0x00 ∷ 7 ∷ []

abbrev refusal : ℕ → List ℕ
refusal n = n ∷ replicate 6 0x00

abbrev runs : List Row
runs =
    -- no calls: the empty book, in buffers that just have room
    (shown_run (run_of [] (spare 7) (spare 7) []) gives (0 ∷ 0 ∷ 0 ∷ P1 ++ spare 7))
    -- a set, with bytes left over in the answers
    ∷ (shown_run (run_of set_ac (spare 17) (spare 17) (spare 8))
    gives (0 ∷ 1 ∷ 1 ∷ (P1 ++ spare 10) ++ (ac_book ++ (one_entry ++ spare 1))))
    -- a refused call changes nothing, and the script goes on: the withdrawal writes into the first buffer
    ∷ (shown_run (run_of (set_ac ++ (withdraw_zz ++ withdraw_ac)) (spare 17) (spare 17) (spare 21))
    gives (0 ∷ 3 ∷ 0 ∷ (P1 ++ spare 10) ++ (ac_book ++ (one_entry ++ (refusal 4 ++ no_entries)))))
    -- Ω is set, half of it is refused
    ∷ (shown_run (run_of (set_half ++ set_ohm) (spare 17) (spare 17) (spare 14))
    gives (0 ∷ 2 ∷ 1 ∷ (P1 ++ spare 10) ++ (take 15 ac_book ++ ohm ++ (refusal 2 ++ one_entry))))
    -- 46 letters and Ω, 47 and a half
    ∷ (shown_run (run_of (0x00 ∷ 0x00 ∷ 0x00 ∷ 0x00 ∷ 1 ∷ 0x00 ∷ 48 ∷ half_name) (spare 7) (spare 7) (spare 7))
    gives (0 ∷ 1 ∷ 0 ∷ P1 ++ (spare 7 ++ refusal 2)))
    ∷ (shown_run (run_of (0x00 ∷ 0x00 ∷ 0x00 ∷ 0x00 ∷ 1 ∷ 0x00 ∷ 48 ∷ full_name) (spare 7) (spare 7) (spare 7))
    gives (0 ∷ 1 ∷ 0 ∷ P1 ++ (spare 7 ++ refusal 7)))
    -- no room for the book of the call: 7 is the call's answer, and the run's is none
    ∷ (shown_run (run_of set_ac (spare 16) (spare 16) (spare 7))
    gives (0 ∷ 1 ∷ 0 ∷ (P1 ++ spare 9) ++ (spare 16 ++ refusal 7)))
    ∷ []

abbrev refusing : List Row
refusing =
    -- 1: cut off in the name, in the head; a kind that is none; before 7
    (shown_run (run_of (take 8 set_ac) (spare 7) (spare 7) (spare 7)) gives (1 ∷ 0 ∷ 0 ∷ spare 21))
    ∷ (shown_run (run_of (set_ac ++ take 6 set_ac) (spare 7) (spare 7) (spare 7)) gives (1 ∷ 0 ∷ 0 ∷ spare 21))
    ∷ (shown_run (run_of (0x02 ∷ replicate 6 0x00) [] (spare 7) []) gives (1 ∷ 0 ∷ 0 ∷ spare 7))
    -- 7: the first buffer too short, the second longer, the answers one byte short
    ∷ (shown_run (run_of [] (spare 6) (spare 6) []) gives (7 ∷ 0 ∷ 0 ∷ spare 12))
    ∷ (shown_run (run_of set_ac (spare 17) (spare 18) (spare 7)) gives (7 ∷ 0 ∷ 0 ∷ spare 42))
    ∷ (shown_run (run_of set_ac (spare 17) (spare 17) (spare 6)) gives (7 ∷ 0 ∷ 0 ∷ spare 40))
    ∷ []

abbrev table : List Row
table = runs ++ refusing

worked : failing 0 table ≡ []
unfolding be from_be number_at allowed_bytes is_prefix is_name is_score valid record_of record_name record_length framed
    count_of read_as scores peak peaks records_at offset offsets image_in entries_in read_in writing writing_image empty_book
    set_entry withdraw_entry call_at is_call calls answer_bytes bench_step run_of
worked = refl

-- Worked cases of the program's command lines: one table, one proposition.
use Rattle.std.specs.Prelude.{ℕ, ◌≡◌, refl, List, [], ◌++◌, ◌∷◌, replicate, take}
use Rattle.octets.specs.Decimal.{decimal}
use Rattle.octets.specs.Octets.{be, from_be}
use Rattle.octets.specs.Table.{Row, ◌gives◌, failing}
use Rattle.octets.specs.Text.{line_feed, text}
use Rattle.entries.specs.Completion.{completion, range_start}
use Rattle.entries.specs.Entries.{Entry, valid}
use Rattle.entries.specs.Names.{allowed_bytes, is_name, is_prefix, is_score, micro, ohm}
use Rattle.book.specs.Records.{record_length, record_name, record_of}
use Rattle.book.specs.Book.{entries_in, image_in, offset, offsets, peak, peaks, read_in, records_at, scores}
use Rattle.frame.specs.Frame.{count_of, framed, read_as}
use Rattle.book.specs.Old.{P3old}
use Rattle.book.specs.Shown.{E, P1, P3, alternating, crowd, spare}
use Rattle.completion.specs.Machine.{machine, offering, open_range, others, parts}
use Rattle.ledger.specs.Ledger.{ledger_answer, ledger_step}
use Rattle.program.specs.Program.{command_of, printed, program, refused_line, top_lines}
use Rattle.program.specs.Program.{top_within}
use Rattle.program.specs.Console.{top_of}

-- document 01's input, without the last line feed, and all that it prints
abbrev shown_input : List ℕ
shown_input = text "set 5 ac\nset 9 rc\nset 9 rc step\nset 12 rl\ntop 2 r\ndel zz"

abbrev shown_output : List ℕ
shown_output = text "ok 1\nok 2\nok 3\nok 4\n12 rl\n9 rc\nlooks 2\nno 4\n"

-- what one line prints with the entries es held
abbrev prints : List Entry → List ℕ → List ℕ
prints es line = printed (command_of line) es

abbrev inputs : List Row
inputs =
    (program shown_input gives shown_output)
    ∷ (program (shown_input ++ line_feed) gives shown_output)
    -- no line; empty lines
    ∷ (program [] gives [])
    ∷ (program (text "\n\n") gives text "bad\nbad\n")
    ∷ (program (text "top 1 a\n\ntop 1 a") gives text "looks 0\nbad\nlooks 0\n")
    -- a new score for a held name; a bad line and a refused one change nothing; withdrawn, and set again
    ∷ (program (text "set 1 a\nset 2 b\nset 3 a\nset 4 b\u{7f}\nset b\ntop 3 \ndel a\ntop 3 \ndel a\nset 0 a\ntop 1 a")
    gives text "ok 1\nok 2\nok 2\nno 2\nbad\n3 a\n2 b\nlooks 2\nok 1\n2 b\nlooks 1\nno 4\nok 2\n0 a\nlooks 1\n")
    ∷ []

-- the nine best of `alternating`
abbrev nine_lines : List ℕ
nine_lines = text "1 b\n1 d\n1 f\n1 h\n1 j\n1 l\n1 n\n1 p\n1 r\nlooks 17\n"

abbrev numbers : List Row
numbers =
    -- the highest number, and one more
    (program (text "set 4294967295 a\ntop 1 a") gives text "ok 1\n4294967295 a\nlooks 1\n")
    ∷ (prints [] (text "set 4294967296 a") gives text "bad\n")
    ∷ (prints [] (text "set 9999999999 a") gives text "bad\n")
    -- ten digits, and eleven; none
    ∷ (program (text "set 0000000005 a\ntop 0000000001 a") gives text "ok 1\n5 a\nlooks 1\n")
    ∷ (prints [] (text "set 00000000005 a") gives text "bad\n")
    ∷ (prints [] (text "top 00000000001 a") gives text "bad\n")
    ∷ (prints [] (text "set  a") gives text "bad\n")
    ∷ (prints [] (text "set a") gives text "bad\n")
    -- signs, and what is no digit
    ∷ (prints [] (text "set -5 a") gives text "bad\n")
    ∷ (prints [] (text "set +5 a") gives text "bad\n")
    ∷ (prints [] (text "set 5a b") gives text "bad\n")
    ∷ (prints [] (text "set 0x5 a") gives text "bad\n")
    -- k is 0, 9, over 9, and far over
    ∷ (prints E (text "top 0 a") gives text "no 3\n")
    ∷ (prints E (text "top 9 a") gives text "5 ac\nlooks 1\n")
    ∷ (prints E (text "top 10 a") gives text "no 3\n")
    ∷ (prints E (text "top 16 a") gives text "no 3\n")
    ∷ (prints E (text "top 257 a") gives text "no 3\n")
    ∷ (prints E (text "top 4294967295 a") gives text "no 3\n")
    ∷ (prints E (text "top 4294967296 a") gives text "bad\n")
    -- nine of nineteen; under the limit 16 the same
    ∷ (prints alternating (text "top 9 ") gives nine_lines)
    ∷ (top_within 16 9 [] alternating gives nine_lines)
    ∷ (top_within 16 16 (text "a") E gives text "5 ac\nlooks 1\n")
    ∷ (top_within 16 17 (text "a") E gives text "no 3\n")
    ∷ []

abbrev forms : List Row
forms =
    -- the space is part of the form; behind it an empty prefix is allowed, an empty name is not
    (prints E (text "top 2 ") gives text "12 rl\n9 rc\nlooks 2\n")
    ∷ (prints E (text "top 2") gives text "bad\n")
    ∷ (prints E (text "set 5 ") gives text "no 2\n")
    ∷ (prints E (text "set 5") gives text "bad\n")
    ∷ (prints E (text "del ") gives text "no 2\n")
    ∷ (prints E (text "del") gives text "bad\n")
    ∷ (prints E [] gives text "bad\n")
    -- two spaces before the number; behind it: a name that begins with a space
    ∷ (prints E (text "set  5 a") gives text "bad\n")
    ∷ (program (text "set 5  a\ntop 1 \ndel  a") gives text "ok 1\n5  a\nlooks 1\nok 0\n")
    -- other words
    ∷ (prints E (text "Set 5 a") gives text "bad\n")
    ∷ (prints E (text " set 5 a") gives text "bad\n")
    ∷ (prints E (text "sets 5 a") gives text "bad\n")
    ∷ (prints E (text "set\t5 a") gives text "bad\n")
    ∷ (prints E (text "del\tac") gives text "bad\n")
    ∷ (prints E (text "find ac") gives text "bad\n")
    -- a carriage return is a byte of the name that is not allowed, as 80 is; behind a number it is no space
    ∷ (prints E (text "del ac\r") gives text "no 2\n")
    ∷ (prints E (text "top 2 r\r") gives text "no 2\n")
    ∷ (prints E (text "top 2\r") gives text "bad\n")
    ∷ (prints E (text "del ac" ++ (0x80 ∷ [])) gives text "no 2\n")
    -- µ and Ω; half a sign
    ∷ (program (text "set 5 10 " ++ micro ++ text "F\nset 7 4.7 k" ++ ohm ++ text "\ntop 2 4.7 k" ++ ohm
    ++ text "\ntop 1 10 " ++ micro ++ text "\ndel 10 " ++ micro ++ text "F")
    gives (text "ok 1\nok 2\n7 4.7 k" ++ ohm ++ text "\nlooks 1\n5 10 " ++ micro ++ text "F\nlooks 1\nok 1\n"))
    ∷ (prints E (text "set 5 10 " ++ (0xC2 ∷ [])) gives text "no 2\n")
    ∷ (prints E (text "top 2 " ++ (0xCE ∷ [])) gives text "no 2\n")
    ∷ (prints E (text "set 5 " ++ replicate 46 0x78 ++ ohm) gives text "ok 5\n")
    ∷ (prints E (text "set 5 " ++ replicate 47 0x78 ++ (0xCE ∷ [])) gives text "no 2\n")
    -- 48 bytes and 49; long lines; 2 before 3
    ∷ (prints E (text "set 5 " ++ replicate 48 0x78) gives text "ok 5\n")
    ∷ (prints E (text "set 5 " ++ replicate 49 0x78) gives text "no 2\n")
    ∷ (prints E (text "del " ++ replicate 300 0x78) gives text "no 2\n")
    ∷ (prints E (text "set " ++ replicate 300 0x30) gives text "bad\n")
    ∷ (prints E (text "top 2 " ++ replicate 48 0x78) gives text "looks 0\n")
    ∷ (prints E (text "top 0 " ++ replicate 49 0x78) gives text "no 2\n")
    -- withdrawn, and absent
    ∷ (prints E (text "del rc") gives text "ok 3\n")
    ∷ (prints E (text "del rc s") gives text "no 4\n")
    -- 1,024 held: a new name, a held one, a withdrawal; a new name with 1,023 held
    ∷ (prints (crowd 1024) (text "set 1 zz") gives text "no 5\n")
    ∷ (prints (crowd 1024) (text "set 1 00") gives text "ok 1024\n")
    ∷ (prints (crowd 1024) (text "del 00") gives text "ok 1023\n")
    ∷ (prints (crowd 1023) (text "set 1 zz") gives text "ok 1024\n")
    ∷ (prints (crowd 1024) (text "set 1 ") gives text "no 2\n")
    ∷ []

-- `top` on the book in a buffer
abbrev books : List Row
books =
    (top_of (P3 ++ spare 3) 2 (text "r") gives text "12 rl\n9 rc\nlooks 2\n")
    ∷ (top_of P1 2 [] gives text "looks 0\n")
    -- no book, which comes before 2 and 3; an empty buffer
    ∷ (top_of (take 42 P3) 2 (text "r") gives text "no 1\n")
    ∷ (top_of (take 42 P3) 0 (0x1F ∷ []) gives text "no 1\n")
    ∷ (top_of [] 2 (text "r") gives text "no 1\n")
    -- an old book, whole, cut off and of one byte: 10 before all
    ∷ (top_of P3old 2 (text "r") gives text "no 10\n")
    ∷ (top_of (take 43 P3old) 2 (text "r") gives text "no 10\n")
    ∷ (top_of (0x21 ∷ []) 0 (0x1F ∷ []) gives text "no 10\n")
    ∷ []

abbrev table : List Row
table = inputs ++ numbers ++ forms ++ books

worked : failing 0 table ≡ []
unfolding be from_be allowed_bytes is_prefix is_name is_score valid completion range_start record_of record_name record_length
    framed count_of read_as scores peak peaks records_at offset offsets image_in entries_in read_in open_range others parts
    offering machine ledger_answer ledger_step decimal command_of refused_line top_lines program top_of
worked = refl

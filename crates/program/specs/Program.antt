-- The program's command lines (document 01, "Sheet, finding, panel, program"): what a line asks for, what it prints,
-- and what it does to the entries held.
use Rattle.std.specs.Prelude.{◌^◌, suc, ℕ, Bool, ◌&&◌, not, List, [], ◌++◌, ◌∷◌, eqb, leb, ltb, drop, length}
use Rattle.octets.specs.Decimal.{decimal, value_on}
use Rattle.octets.specs.Lists.{concat_map, if◌then◌otherwise◌}
use Rattle.octets.specs.Octets.{begins}
use Rattle.octets.specs.Text.{line_feed, text}
use Rattle.entries.specs.Completion.{completion, max_count}
use Rattle.entries.specs.Entries.{Entry}
use Rattle.entries.specs.Names.{is_prefix}
use Rattle.answer.specs.Answers.{Answer, WrittenCounts, ◌when◌, given, refused, unless}
use Rattle.completion.specs.Complete.{bad_count}
use Rattle.completion.specs.Machine.{machine}
use Rattle.ledger.specs.Ledger.{Edit, ledger_answer, ledger_step, set_name, withdraw_name}

-- the length of the program's two buffers
abbrev pub buffer_length : ℕ
buffer_length = 57344

abbrev pub is_digit : ℕ → Bool
is_digit b = leb 48 b && leb b 57

-- the bytes at the front that pass a test
abbrev pub front : (ℕ → Bool) → List ℕ → List ℕ
front p [] = []
front p (b ∷ bs) = if p b then (b ∷ front p bs) otherwise []

-- the digits at the front; `value_on` gives their number
abbrev pub digits : List ℕ → List ℕ
digits bs = front is_digit bs

-- What a line asks for.
pub data Command : Type 0 where
  edit : Edit → Command
  top : ℕ → List ℕ → Command
  bad : Command

-- a number of 1 to 10 digits below 4,294,967,296 and a space at the front
abbrev pub has_number : List ℕ → Bool
has_number bs =
    let ds = digits bs in
    leb 1 (length ds) && (leb (length ds) 10
    && (ltb (value_on 0 ds) (2 ^ 32) && begins (text " ") (drop (length ds) bs)))

-- these, then the name or prefix
abbrev pub numbered : (ℕ → List ℕ → Command) → List ℕ → Command
numbered make bs =
    let ds = digits bs in if has_number bs then make (value_on 0 ds) (drop (suc (length ds)) bs) otherwise bad

-- one of the words and a space; any other line is bad
unfoldable pub command_of : List ℕ → Command
command_of bs =
    if begins (text "set ") bs then numbered (λ n w. edit (set_name w n)) (drop 4 bs)
    otherwise if begins (text "top ") bs then numbered top (drop 4 bs)
    otherwise if begins (text "del ") bs then edit (withdraw_name (drop 4 bs))
    otherwise bad

-- `no` and the refusal
unfoldable pub refused_line : ℕ → List ℕ
refused_line n = text "no " ++ decimal n ++ line_feed

-- `ok` and the entries now held
abbrev pub edit_line : Answer WrittenCounts → List ℕ
edit_line (refused n) = refused_line n
edit_line (given c) = text "ok " ++ decimal c.entries ++ line_feed

-- score and name of each entry offered; `looks` and the looks
unfoldable pub top_lines : List Entry → ℕ → List ℕ
top_lines l looks =
    concat_map (λ e. decimal e.score ++ text " " ++ e.name ++ line_feed) l
    ++ (text "looks " ++ decimal looks ++ line_feed)

abbrev pub offer_lines : Answer (List ℕ) → List ℕ
offer_lines (refused n) = refused_line n
offer_lines (given lines) = lines

-- what `top` prints with the entries es held, for counts up to a limit
abbrev pub top_within : ℕ → ℕ → List ℕ → List Entry → List ℕ
top_within limit k p es =
    offer_lines
    (unless (2 when not (is_prefix p) ∷ 3 when bad_count limit k ∷ [])
    (top_lines (completion es p k) (machine es p k).looks))

-- what a command prints with the entries es held
abbrev pub printed : Command → List Entry → List ℕ
printed (edit c) es = edit_line (ledger_answer buffer_length c es)
printed (top k p) es = top_within max_count k p es
printed bad es = text "bad" ++ line_feed

-- the entries held after it
abbrev pub held_after : Command → List Entry → List Entry
held_after (edit c) es = ledger_step buffer_length c es
held_after (top k p) es = es
held_after bad es = es

-- the lines of an input, each ended by byte 0A, which the last may lack
abbrev pub start_line : ℕ → List (List ℕ) → List (List ℕ)
start_line b [] = (b ∷ []) ∷ []
start_line b (l ∷ ls) = (b ∷ l) ∷ ls

abbrev pub lines : List ℕ → List (List ℕ)
lines [] = []
lines (b ∷ bs) = if eqb b 10 then ([] ∷ lines bs) otherwise start_line b (lines bs)

-- what the program prints for lines, from the entries es on
abbrev pub output_of : List Entry → List (List ℕ) → List ℕ
output_of es [] = []
output_of es (l ∷ ls) = printed (command_of l) es ++ output_of (held_after (command_of l) es) ls

unfoldable pub program : List ℕ → List ℕ
program input = output_of [] (lines input)

-- the line of a line that asks for nothing
abbrev pub bad_line : List ℕ
bad_line = text "bad" ++ line_feed

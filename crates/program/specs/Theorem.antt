-- What command lines print on two buffers is what the ledger says of them.
use Rattle.std.specs.Prelude.{◌≤◌, ℕ, ◌≡◌, Bool, true, List, [], ◌++◌, ◌∷◌, length, take}
use Rattle.program.specs.Program as commands
use Rattle.entries.specs.Entries.{Entry, valid}
use Rattle.answer.specs.Answers.{refused}
use Rattle.book.specs.Book.{book_image}
use Rattle.ledger.specs.Ledger.{Edit, ledger_answer, score_fits}
use Rattle.script.specs.Run.{Bench, bench, book_of, start_bench}
use Rattle.program.specs.Program.{buffer_length, command_of, held_after, lines, output_of, printed, program}
use Rattle.program.specs.Console.{Console, bench_last, console, console_after, left_by, said_for, said_last, shown_by}

-- a list of lines carried out from a bench on: what is printed, and the bench after it
abbrev pub shown_for : List (List ℕ) → Bench → List ℕ
shown_for [] b = []
shown_for (l ∷ ls) b = shown_by (command_of l) b ++ shown_for ls (left_by (command_of l) b)

abbrev pub left_for : List (List ℕ) → Bench → Bench
left_for [] b = b
left_for (l ∷ ls) b = left_for ls (left_by (command_of l) b)

-- the entries that the ledger holds after a list of lines
abbrev pub held_for : List (List ℕ) → List Entry → List Entry
held_for [] es = es
held_for (l ∷ ls) es = held_for ls (held_after (command_of l) es)

-- the image of entries stands at the front of the buffer that holds the book
abbrev pub BookStands : List Entry → Bench → Type 0
BookStands es b = take (length (book_image es)) (book_of b) ≡ book_image es

pub record LedgerSays (ls : List (List ℕ)) (b : Bench) : Type 0 where
  pub printed : shown_for ls b ≡ output_of [] ls
  pub stands : BookStands (held_for ls []) (left_for ls b)

-- any list of lines, from the book that "empty" wrote into one of two buffers of 57,344 bytes
abbrev pub LinesSay : Type 0
LinesSay = (ls : List (List ℕ)) (a b : List ℕ) → length a ≡ buffer_length → length b ≡ buffer_length
    → LedgerSays ls (start_bench a b)

-- with buffers of that length refusal 7 cannot occur
abbrev pub NeverSeven : Type 0
NeverSeven = (c : Edit) (es : List Entry) → valid es ≡ true → score_fits c ≡ true
    → ledger_answer buffer_length c es ≡ refused 7 → ⊥

-- two commands print the same with the entries es held, and leave the same entries
pub record Alike (es : List Entry) (c d : commands.Command) : Type 0 where
  pub shown : printed c es ≡ printed d es
  pub held : held_after c es ≡ held_after d es

-- a line's bytes past the 64th change nothing
abbrev pub CutAlike : Type 0
CutAlike = (line : List ℕ) (n : ℕ) (es : List Entry) → 64 ≤ n → Alike es (command_of (take n line)) (command_of line)

-- input fed in two parts is as fed at once, so it may be cut anywhere
abbrev pub InParts : Type 0
InParts =
    (xs ys : List ℕ) (s : Console)
    → (console_after (xs ++ ys) s ≡ console_after ys (console_after xs s))
    × (said_for (xs ++ ys) s ≡ said_for xs s ++ said_for ys (console_after xs s))

-- the console at the start: no line is begun, and "empty" wrote into the first buffer
abbrev pub start_console : List ℕ → List ℕ → Console
start_console a b = console [] (start_bench a b)

-- the program on an input
pub record ProgramSays (input : List ℕ) (s : Console) : Type 0 where
  pub printed : said_for input s ++ said_last (console_after input s) ≡ program input
  pub stands : BookStands (held_for (lines input) []) (bench_last (console_after input s))

abbrev pub InputSays : Type 0
InputSays = (input a b : List ℕ) → length a ≡ buffer_length → length b ≡ buffer_length
    → ProgramSays input (start_console a b)

-- The program has run to the end of some input, on buffers that held a and b: the ledger's book stands in one of them,
-- as `turned` says, and the bytes at the front of `out`, the last to be printed, end what is printed for that input.
pub record ProgramRan (a b : List ℕ) (bytes : ℕ) (turned : Bool) (one two out : List ℕ) : Type 0 where
  pub input : List ℕ
  pub printed : said_for input (start_console a b) ++ take bytes out ≡ program input
  pub stands : BookStands (held_for (lines input) []) (bench one two turned)

-- The program as it runs: what one command prints and leaves on two buffers, and input fed byte by byte, of whose lines
-- 64 bytes are kept.
use Rattle.std.specs.Prelude.{◌+◌, ◌≤◌, ℕ, ◌≡◌, Bool, not, List, [], ◌++◌, ◌∷◌, eqb, length, take}
use Rattle.octets.specs.Lists.{if◌then◌otherwise◌}
use Rattle.script.specs.Run.{Bench, bench, bench_call, bench_step, book_of}
use Rattle.program.specs.Program.{bad, bad_line, command_of, edit, edit_line, offer_lines, top, top_lines}
use Rattle.program.specs.Program as program
use Rattle.entries.specs.Completion.{completion, max_count}
use Rattle.entries.specs.Names.{is_prefix}
use Rattle.answer.specs.Answers.{◌when◌, unless}
use Rattle.book.specs.Book.{in_book}
use Rattle.book.specs.Checks.{book_checks}
use Rattle.completion.specs.Complete.{bad_count}
use Rattle.completion.specs.Machine.{machine}

-- `top` on the book in a buffer
unfoldable pub top_of : List ℕ → ℕ → List ℕ → List ℕ
top_of book k p =
    offer_lines
    (unless (book_checks (book ∷ []) ++ (2 when not (is_prefix p) ∷ 3 when bad_count max_count k ∷ []))
    (top_lines (completion (in_book book) p k) (machine (in_book book) p k).looks))

-- what a command prints
abbrev pub shown_by : program.Command → Bench → List ℕ
shown_by (edit c) b = edit_line (bench_call c b).answer
shown_by (top k p) b = top_of (book_of b) k p
shown_by bad b = bad_line

-- the buffers after it
abbrev pub left_by : program.Command → Bench → Bench
left_by (edit c) b = bench_step c b
left_by (top k p) b = b
left_by bad b = b

-- the bytes of a line that are kept
abbrev pub kept_bytes : ℕ
kept_bytes = 64

-- what is kept of the line begun, and the buffers
pub record Console : Type 0 where
  pub line : List ℕ
  pub bench : Bench

abbrev pub console : List ℕ → Bench → Console
console l b = record { line = l; bench = b }

-- one byte more: a line feed ends the line, which is carried out
abbrev pub fed_by : ℕ → Console → Console
fed_by x s =
    if eqb x 10 then console [] (left_by (command_of s.line) s.bench)
    otherwise console (take kept_bytes (s.line ++ (x ∷ []))) s.bench

abbrev pub said_at : ℕ → Console → List ℕ
said_at x s = if eqb x 10 then shown_by (command_of s.line) s.bench otherwise []

-- bytes in order: the console after them, and what is printed
abbrev pub console_after : List ℕ → Console → Console
console_after [] s = s
console_after (x ∷ xs) s = console_after xs (fed_by x s)

abbrev pub said_for : List ℕ → Console → List ℕ
said_for [] s = []
said_for (x ∷ xs) s = said_at x s ++ said_for xs (fed_by x s)

-- the console that lent buffers hold: `kept` bytes of the line begun stand in `line`, and `turned` says that the book
-- is in the second of the other two
abbrev pub console_in : ℕ → Bool → List ℕ → List ℕ → List ℕ → Console
console_in kept turned line one two = console (take kept line) (bench one two turned)

-- the bytes xs were fed to the console s: the lent buffers hold the console after them
pub record BytesFed (xs : List ℕ) (s : Console) (kept : ℕ) (turned : Bool) (line one two : List ℕ) : Type 0 where
  pub few : kept ≤ kept_bytes
  pub state : console_in kept turned line one two ≡ console_after xs s

-- some bytes were fed so
pub record SomeFed (s : Console) (kept : ℕ) (turned : Bool) (line one two : List ℕ) : Type 0 where
  pub bytes : List ℕ
  pub fed : BytesFed bytes s kept turned line one two

-- the end of the input: a line begun is carried out
abbrev pub said_last : Console → List ℕ
said_last s = if eqb (length s.line) 0 then [] otherwise shown_by (command_of s.line) s.bench

abbrev pub bench_last : Console → Bench
bench_last s = if eqb (length s.line) 0 then s.bench otherwise left_by (command_of s.line) s.bench

-- the bytes in front of the first line feed
abbrev pub in_line : ℕ → Bool
in_line x = not (eqb x 10)

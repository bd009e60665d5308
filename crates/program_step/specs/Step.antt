-- One command on two buffers: what it prints, and what it leaves. The book's entries decide both (see Theorem).
use Rattle.std.specs.Prelude.{◌*◌, ◌+◌, ◌≤◌, ℕ, ◌≡◌, Err, List, Ok, Result}
use Rattle.octets_laws.specs.Printed.{Printed}
use Rattle.program.specs.Program as program
use Rattle.entries.specs.Completion.{max_count}
use Rattle.completion.specs.Complete.{entry_room}
use Rattle.completion.specs.Machine.{most_looks}
use Rattle.sheet.specs.Sheet.{sheet_from}
use Rattle.script.specs.Run.{Bench, bench}
use Rattle.program.specs.Program.{refused_line, top_lines}
use Rattle.program_print.specs.Printing.{Laid, entry_line_room}
use Rattle.answer.specs.Reports.{number_of}
use Rattle.answer.specs.declared.Offered.{Offered}
use Rattle.answer.specs.declared.Refusal.{Refusal}
use Rattle.program_step.specs.declared.LineReport.{LineReport}
use Rattle.program.specs.Console.{left_by, shown_by}

-- the bytes that the line of the looks may take: the word and a space, ten digits, a line feed
abbrev pub looks_line_room : ℕ
looks_line_room = 6 + 10 + 1

-- the bytes that the lines of one command may take: those of `top`, with as many entries as can be asked for
abbrev pub line_room : ℕ
line_room = entry_line_room * max_count + looks_line_room

-- the bytes that the answer of `top` may take
abbrev pub answer_room : ℕ
answer_room = entry_room * max_count

-- a completion's answer that can be printed: the entries offered lie at the front of the answer's bytes, and the looks
-- are few
abbrev pub Printable : Result Offered Refusal → List ℕ → Type 0
Printable (Err r) bytes = Unit {0}
Printable (Ok c) bytes = Laid c.offered bytes × (c.looks ≤ most_looks max_count)

-- its lines
abbrev pub answer_lines : Result Offered Refusal → List ℕ → List ℕ
answer_lines (Err r) bytes = refused_line (number_of r)
answer_lines (Ok c) bytes = top_lines (sheet_from c.offered bytes) c.looks

-- a command done on the bench b: r and these three buffers are what it gives and leaves
pub record StepDone (c : program.Command) (b : Bench) (out : List ℕ) (r : LineReport) (one two left : List ℕ) : Type 0
  where
    pub bench : bench one two r.turned ≡ left_by c b
    pub printed : Printed out 0 (shown_by c b) r.bytes left

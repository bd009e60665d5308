-- Input fed in parts, at any places: the line begun, of which 64 bytes are kept, and the two buffers.
use Rattle.std.specs.Prelude.{◌<◌, ◌≤◌, ℕ, ◌≡◌, List, ◌++◌, length, take}
use Rattle.octets_laws.specs.Printed.{Printed}
use Rattle.script.specs.Run.{bench}
use Rattle.program.specs.Program.{front}
use Rattle.program.specs.Console.{Console, bench_last, console, console_after, in_line, kept_bytes, said_for, said_last}
use Rattle.program_step.specs.Step.{line_room}
use Rattle.program_run.specs.declared.Fed.{Fed}
use Rattle.program_step.specs.declared.LineReport.{LineReport}

abbrev pub line_of : List ℕ → List ℕ
line_of bs = front in_line bs

-- room for a line, and for what it prints
pub record FeedRoom (kept : ℕ) (line out : List ℕ) : Type 0 where
  pub few : kept ≤ kept_bytes
  pub long : kept_bytes ≤ length line
  pub wide : line_room ≤ length out

-- the line with a part more
pub record LineKept (line : List ℕ) (kept : ℕ) (part : List ℕ) (r : ℕ) (left : List ℕ) : Type 0 where
  pub few : r ≤ kept_bytes
  pub bytes : take r left ≡ take kept_bytes (take kept line ++ part)

-- a part of the input was fed to the console s: some of it is used, and r and the buffers are what that gives and
-- leaves
pub record FeedDone (input : List ℕ) (s : Console) (out : List ℕ) (r : Fed) (line one two left : List ℕ) : Type 0 where
  pub within : r.used ≤ length input
  pub ahead : 0 < length input → 0 < r.used
  pub few : r.kept ≤ kept_bytes
  pub state : console (take r.kept line) (bench one two r.turned) ≡ console_after (take r.used input) s
  pub printed : Printed out 0 (said_for (take r.used input) s) r.bytes left

-- the end of the input was told to the console s
pub record FinishDone (s : Console) (out : List ℕ) (r : LineReport) (one two left : List ℕ) : Type 0 where
  pub bench : bench one two r.turned ≡ bench_last s
  pub printed : Printed out 0 (said_last s) r.bytes left

-- A line's step by what it asks for.
use Prim.Native.Nat.{◌≤◌, ℕ}
use mathlib.Core.Path.{◌≡◌, refl}
use mathlib.Core.Bool.{Bool, false, true}
use mathlib.Core.List.{List}
use lib.ListN.{length}
use Rattle.octets_laws.specs.Printed.{Printed}
use Rattle.script.specs.Run.{Bench, bench}
use Rattle.program.specs.Program.{bad, bad_line, command_of, top}
use Rattle.program_parse.specs.Parsing.{Asks, command_as, rest_of}
use Rattle.program_step.specs.Step.{StepDone}
use Rattle.program.specs.Console.{top_of}
use Rattle.std.proofs.Common.{Option}
use Rattle.program_parse.specs.declared.Command.{Command}
use Rattle.program_step.specs.declared.LineReport.{LineReport}

-- the book that `top` reads
module _ {one two out : List ℕ} {k : ℕ} (p : List ℕ) {m : ℕ} {left : List ℕ} {t : Bool} where
  pub top_second :
      t ≡ true → Printed out 0 (top_of two k p) m left
      → StepDone (top k p) (bench one two t) out (record { bytes = m; turned = t }) one two left
  top_second e q = rw e (record { bench = refl; printed = q })

  pub top_first :
      t ≡ false → Printed out 0 (top_of one k p) m left
      → StepDone (top k p) (bench one two t) out (record { bytes = m; turned = t }) one two left
  top_first e q = rw e (record { bench = refl; printed = q })

-- the step of what was parsed is the line's
module _ {line : List ℕ} {c : Option Command} (a : Asks line (command_of line) c) where
  pub rest_inside : {d : Option Command} → c ≡ d → rest_of d ≤ length line
  rest_inside e = rw e at a.within

  pub step_as :
      {d : Option Command} {b : Bench} {out : List ℕ} {r : LineReport} {one two left : List ℕ} → c ≡ d
      → StepDone (command_as line d) b out r one two left → StepDone (command_of line) b out r one two left
  step_as e q = rw (← a.means, e) q

pub step_bad :
    {one two out : List ℕ} {t : Bool} {m : ℕ} {left : List ℕ} → Printed out 0 bad_line m left
    → StepDone bad (bench one two t) out (record { bytes = m; turned = t }) one two left
step_bad q = record { bench = refl; printed = q }

-- An edit on the bench, and its answer printed.
use Prim.Native.Nat.{ℕ}
use mathlib.Core.Path.{◌≡◌}
use mathlib.Core.Bool.{Bool, not}
use mathlib.Core.List.{List}
use Rattle.octets_laws.specs.Printed.{Printed}
use Rattle.ledger.specs.Ledger.{Edit}
use Rattle.answer.specs.Answers.{on_answer}
use Rattle.answer.specs.Reports.{written_of}
use Rattle.script_step.specs.Calls.{Performed}
use Rattle.script.specs.Run.{Bench}
use Rattle.script_step.proofs.Calling.{performed_bench}
use Rattle.program.specs.Program.{edit, edit_line}
use Rattle.program_step.specs.Step.{StepDone}
use Rattle.std.proofs.Common.{Result}
use Rattle.answer.specs.declared.Refusal.{Refusal}
use Rattle.answer.specs.declared.Size.{Size}

pub edit_done :
    {c : Edit} {b : Bench} {out : List ℕ} {w : Result Size Refusal} {one two left : List ℕ} {m : ℕ} {t : Bool}
    → Performed c b w one two → Printed out 0 (edit_line (written_of w)) m left
    → t ≡ on_answer (written_of w) b.turned (not b.turned)
    → StepDone (edit c) b out (record { bytes = m; turned = t }) one two left
edit_done p q roles = record { bench = performed_bench p roles; printed = rw p.answer at q }

-- `labels::answer_part` meets its contract. The loop's invariant: what is left of the part, fed to the console that the
-- buffers hold, leads where all of it leads from the start; the buffers keep their lengths, and there is room for a
-- line. The measure is what is left of the part.
use Prim.Native.Nat.{◌-◌}
use lib.ListN.{length}
use Rattle.program.specs.Console.{console_in}
use Rattle.labels.proofs.Lending.{Feeding, Ready}
use Rattle.labels.proofs.answer_part.Given as goal

abbrev pub invariant-loop-used : goal.invariant-loop-used
invariant-loop-used l =
    Feeding l.part (console_in l.initial.kept l.initial.turned l.initial.line l.initial.first l.initial.second) l.used (console_in l.kept l.turned l.line l.first l.second)
    × Ready l.initial.line l.initial.first l.initial.second l.initial.out l.line l.first l.second l.out l.kept

abbrev pub decreases-loop-used : goal.decreases-loop-used
decreases-loop-used l = length l.part - l.used

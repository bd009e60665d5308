-- `labels::read_all` meets its contract. The loop's invariant: the console that the buffers hold is the one that some
-- bytes lead to from the start, those read so far; the buffers keep their lengths, and there is room for a line.
use mathlib.Core.Path.{◌≡◌}
use mathlib.Core.Bool.{false}
use lib.ListN.{length}
use Rattle.program.specs.Console.{SomeFed, console_in}
use Rattle.labels.proofs.Lending.{Ready}
use Rattle.labels.proofs.read_all.Given as goal

abbrev pub invariant-loop : goal.invariant-loop
invariant-loop l =
    SomeFed (console_in 0 false l.initial.line l.initial.first l.initial.second) l.s.kept l.s.turned l.line l.first l.second
    × (length l.input ≡ length l.initial.input) × Ready l.initial.line l.initial.first l.initial.second l.initial.out l.line l.first l.second l.out l.s.kept

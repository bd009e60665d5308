-- `program_run::finish` meets its contract: by whether a line is begun.
-- No loop, so no invariant.
use mathlib.Core.Path.{refl, sym}
use lib.Seq.{length-take-le}
use native.Mathlib.Omega.{arith}
use Rattle.script.specs.Run.{bench}
use Rattle.program_run.proofs.Feeding.{finish_line, finish_none}
use Rattle.program_run.proofs.finish.Goals as goal

pub returns-then-kept-eq0 : goal.returns-then-kept-eq0
returns-then-kept-eq0 c =
    finish_none c.args.line.now (bench c.args.first.now c.args.second.now c.args.turned) c.if-kept-eq0.true refl

pub slice_bounds-step-end : goal.slice_bounds-step-end
slice_bounds-step-end c =
    sym (length-take-le c.args.kept c.args.line.now (omega (arith, c.requires.few, c.requires.long)))

pub returns : goal.returns
returns c =
    finish_line c.args.line.now (bench c.args.first.now c.args.second.now c.args.turned)
    c.if-kept-eq0.false
    (omega (arith, c.requires.few, c.requires.long)) c.step.ensures

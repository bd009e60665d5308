use mathlib.Core.Path.{◌∙◌}
use Rattle.program.proofs.Input.{fed_more}
use Rattle.labels.proofs.Lending.{ready_on}
use Rattle.labels.proofs.read_all.Goals as goal

pub loop-preserved : goal.loop-preserved
loop-preserved c = (
  fed_more c.loop.invariant.0 c.read_part-s.ensures.is,
  c.read_part-s.auto.input ∙ c.loop.invariant.1,
  ready_on c.loop.invariant.2 c.read_part-s.ensures.is.few c.read_part-s.auto.line c.read_part-s.auto.first
      c.read_part-s.auto.second c.read_part-s.auto.out,
)

pub returns-then-not-s : goal.returns-then-not-s
returns-then-not-s c = fed_more c.loop.invariant.0 c.read_part-s.ensures.is

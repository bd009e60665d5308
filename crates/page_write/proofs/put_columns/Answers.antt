use mathlib.Core.Path.{◌∙◌, ap, refl}
use lib.ListN.{length-set}
use lib.Seq.{sets}
use native.Mathlib.Omega.{arith}
use Rattle.page_write.proofs.Writing.{columns_end, columns_on}
use Rattle.page_write.proofs.put_columns.Goals as goal

pub loop-j-init : goal.loop-j-init
loop-j-init c = (refl, refl)

pub bounds-row-j : goal.bounds-row-j
bounds-row-j c = omega (arith, c.requires.1)

pub bounds-line-j : goal.bounds-line-j
bounds-line-j c = omega (arith, c.loop-j.invariant.0)

pub loop-j-preserved : goal.loop-j-preserved
loop-j-preserved c = (
  length-set c.loop-j.line _ _ ∙ c.loop-j.invariant.0,
  columns_on c.args.row.now c.requires.2 c.requires.1 c.loop-j.line c.loop-j.j (omega arith) c.loop-j.invariant.0
      c.column.ensures c.loop-j.invariant.1,
)

pub returns : goal.returns
returns c =
    c.copy.ensures
    ∙ ap (sets c.args.dst.now c.args.at)
    (columns_end c.args.row.now c.requires.2 c.requires.1 c.loop-j.line c.loop-j-test.false c.loop-j.invariant.0
    c.loop-j.invariant.1)

-- `program_run::keep` meets its contract: as much of the part as there is room for, copied behind what is kept.
use Rattle.program_run.proofs.Feeding.{kept_part}
use Rattle.program_run.proofs.keep.Goals as goal

pub returns : goal.returns
returns c =
    kept_part c.args.line.now c.args.kept c.args.part.now c.requires.0 c.requires.1 c.min-n.ensures
    c.copy.ensures

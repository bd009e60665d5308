-- `program_step::put_refusal` meets its contract: the word and the refusal's number.
use Rattle.program.specs.Program.{refused_line}
use Rattle.program_step.proofs.put_refusal.Goals as goal

pub returns : goal.returns
unfolding refused_line
returns c = let f = c.from.ensures in let g = c.from-2.ensures in let h = c.put_counted.ensures in rw (← f, ← g) h

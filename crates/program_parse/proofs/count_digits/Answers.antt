use Rattle.program_parse.proofs.Digits.{count_start}
use Rattle.program_parse.proofs.count_digits.Goals as goal

pub loop-i-init : goal.loop-i-init
loop-i-init c = count_start _ _

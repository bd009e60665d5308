use native.Mathlib.Omega.{arith}
use lib.Seq.{length-take-le}
use mathlib.Core.Path.{sym}
use Rattle.program.specs.Program.{is_digit}
use Rattle.program_parse.proofs.Digits.{front_most}
use Rattle.program_parse.proofs.Digits.{value_start}
use Rattle.program_parse.proofs.value_of.Goals as goal

pub slice_bounds-b-items-end : goal.slice_bounds-b-items-end
slice_bounds-b-items-end c = sym (length-take-le c.args.n c.args.s.now (omega (arith, front_most is_digit c.args.s.now, c.requires.0)))

pub loop-b-init : goal.loop-b-init
loop-b-init c = value_start _ c.requires.0

-- `program_parse::count_digits` meets its contract. The loop's invariant: the digits counted and those that are left
-- are all of them.
use Rattle.program.specs.Program.{is_digit}
use Rattle.program_parse.proofs.Digits.{Counting}
use Rattle.program_parse.proofs.count_digits.Given as goal

abbrev pub invariant-loop-i : goal.invariant-loop-i
invariant-loop-i l = Counting is_digit l.s l.i

-- `program_parse::value_of` meets its contract. The loop's invariant: the digits that are left, on the value so far,
-- give the whole value, and it is below the power of ten of the digits passed.
use Rattle.program_parse.proofs.Digits.{Valuing}
use Rattle.program_parse.proofs.value_of.Given as goal

abbrev pub invariant-loop-b : goal.invariant-loop-b
invariant-loop-b l = Valuing l.s l.n l.b-index l.v

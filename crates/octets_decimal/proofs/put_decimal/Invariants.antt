-- `octets_decimal::put_decimal` meets its contract. The loop's invariant: the digits of what is left, and those put in,
-- are the number's. The measure is what is left of the number.
use Rattle.octets_decimal.proofs.Digits.{Numbering}
use Rattle.octets_decimal.proofs.put_decimal.Given as goal

abbrev pub invariant-loop-rest : goal.invariant-loop-rest
invariant-loop-rest l = Numbering l.initial.dst l.end l.v l.dst l.at l.rest

abbrev pub decreases-loop-rest : goal.decreases-loop-rest
decreases-loop-rest l = l.rest

use native.Mathlib.Omega.{arith}
use Rattle.octets_decimal.proofs.Digits.{number_end, number_low, number_on, number_start}
use Rattle.octets_decimal.proofs.put_decimal.Goals as goal

pub loop-rest-init : goal.loop-rest-init
loop-rest-init c = number_start _ _ _ (omega arith) (omega arith) (omega arith)

pub overflow_sub-at-in-loop-rest : goal.overflow_sub-at-in-loop-rest
overflow_sub-at-in-loop-rest c =
    number_low c.loop-rest.invariant c.requires.0 c.loop-rest-test.true

pub loop-rest-preserved : goal.loop-rest-preserved
loop-rest-preserved c = number_on c.loop-rest.invariant c.requires.0 c.loop-rest-test.true

pub returns : goal.returns
returns c = number_end c.loop-rest.invariant c.loop-rest-test.false

use mathlib.Core.Path.{◌≡◌}
use lib.ListN.{drop}
use native.Mathlib.Omega.{arith}
use Rattle.std.proofs.Common.{Some}
use Rattle.octets.proofs.Stores.{to_end}
use Rattle.script_calls.specs.Code.{found_length}
use Rattle.script_calls.proofs.Counting.{count-damaged, count_end, count_less, count_on, count_start}
use Rattle.script_calls.proofs.count_calls.Goals as goal
use Rattle.script_calls.proofs.count_calls.Goals.{In_ok-len}

-- the length of the call that is counted
found : (c : In_ok-len) → Some c.in_ok-len.len ≡ found_length (drop c.loop-at.at c.args.script.now)
found c = rw (to_end c.args.script.now c.loop-at.at) at c.in_ok-len.ensures

pub loop-at-init : goal.loop-at-init
loop-at-init c = count_start _

pub returns-in_err-len : goal.returns-in_err-len
returns-in_err-len c =
    rw c.from_residual.ensures
    (count-damaged c.loop-at.invariant c.loop-at-test.true (rw (to_end c.args.script.now c.loop-at.at) at c.in_err-len.ensures))

pub overflow_add-at : goal.overflow_add-at
overflow_add-at c = omega (arith, (count_on c.loop-at.invariant (found (goal.at.overflow_add-at c).In_ok-len)).within)

pub overflow_add-n : goal.overflow_add-n
overflow_add-n c =
    let k = count_on c.loop-at.invariant (found (goal.at.overflow_add-n c).In_ok-len) in
    omega (arith, k.low, k.within)

pub loop-at-smaller : goal.loop-at-smaller
loop-at-smaller c =
    let f = found (goal.at.loop-at-smaller c).In_ok-len in
    omega (arith, (count_on c.loop-at.invariant f).within, count_less c.loop-at.invariant f)

pub loop-at-preserved : goal.loop-at-preserved
loop-at-preserved c = count_on c.loop-at.invariant (found (goal.at.loop-at-preserved c).In_ok-len)

pub returns : goal.returns
returns c = count_end c.loop-at.invariant c.loop-at-test.false

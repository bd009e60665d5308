use native.Mathlib.Omega.{arith}
use Rattle.page_write.proofs.Writing.{count_end, count_on, count_start}
use Rattle.page_write.proofs.page_size.Goals as goal

pub loop-len-init : goal.loop-len-init
loop-len-init c = count_start _

pub overflow_cast-lines : goal.overflow_cast-lines
overflow_cast-lines c = omega (arith, c.type_inv.lens c.loop-len.len-index)

pub overflow_add-lines : goal.overflow_add-lines
overflow_add-lines c = omega (arith, c.type_inv.lens c.loop-len.len-index)

pub overflow_add-lines-in-loop-len : goal.overflow_add-lines-in-loop-len
overflow_add-lines-in-loop-len c =
    omega (arith, c.loop-len.invariant.few, c.loop-len.invariant.upto, c.requires, c.type_inv.lens c.loop-len.len-index)

pub loop-len-preserved : goal.loop-len-preserved
loop-len-preserved c =
    count_on c.loop-len.invariant c.loop-len-test.true (omega (arith, c.type_inv.lens c.loop-len.len-index))

pub overflow_mul-result : goal.overflow_mul-result
overflow_mul-result c = omega (arith, c.loop-len.invariant.few, c.loop-len.invariant.upto, c.requires)

pub returns : goal.returns
returns c = count_end c.loop-len.invariant c.loop-len-test.false

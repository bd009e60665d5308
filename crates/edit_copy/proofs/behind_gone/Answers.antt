-- `edit_copy::behind_gone` meets its contract: nothing, or the header that was read, changed. No loop.
use native.Mathlib.Omega.{arith}
use Rattle.edit_copy.proofs.Puts.{gone-none, gone-some}
use Rattle.edit_copy.proofs.behind_gone.Goals as goal

pub returns-then-end-next : goal.returns-then-end-next
returns-then-end-next c =
    gone-none c.args.book.now c.args.end c.args.at c.args.kept c.args.own c.if-end-next.true
    c.nothing.ensures

pub overflow_add-all-2 : goal.overflow_add-all-2
overflow_add-all-2 c =
    omega (arith, c.min-new.ensures, c.requires.enough c.if-end-next.false)

pub overflow_cast-header-2 : goal.overflow_cast-header-2
overflow_cast-header-2 c =
    omega (arith, c.min-new.ensures, c.requires.enough c.if-end-next.false)

pub returns : goal.returns
returns c =
    gone-some c.args.book.now c.args.end c.args.at c.args.kept c.args.own c.if-end-next.false
    c.min-new.ensures

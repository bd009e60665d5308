-- `script_step::call` meets its contract: by the call's kind; the counts of a book that was written are small.
use native.Mathlib.Omega.{arith}
use Rattle.script_step.proofs.Calling.{set_called, withdraw_called}
use Rattle.script_step.proofs.call.Goals as goal

pub returns-in-Set : goal.returns-in-Set
returns-in-Set c =
    let a = c.args in
    rw c.in-Set.is (set_called a.name.now a.book.now a.dst.now c.in-Set.score (omega arith) c.set.ensures)

pub returns-in-Withdraw : goal.returns-in-Withdraw
returns-in-Withdraw c =
    let a = c.args in
    rw c.in-Withdraw.is (withdraw_called a.name.now a.book.now a.dst.now c.withdraw.ensures)

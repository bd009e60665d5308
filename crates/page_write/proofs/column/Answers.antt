-- `page_write::column` meets its contract: each arm is the test's.
-- No loop, so no invariant.
use borrow.Author.Tests.{le-ltb, lt-ltb}
use Rattle.page_write.proofs.column.Goals as goal

pub returns-then-j-n : goal.returns-then-j-n
returns-then-j-n c = simp (lt-ltb _ _ c.if-j-n.true)

pub returns-else-j-n : goal.returns-else-j-n
returns-else-j-n c = simp (le-ltb _ _ c.if-j-n.false)

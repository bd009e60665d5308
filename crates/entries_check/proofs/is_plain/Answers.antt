-- `entries_check::is_plain` meets its contract. No loop.
use borrow.Author.Tests.{le-leb, lt-leb}
use Rattle.entries_check.proofs.is_plain.Goals as goal

pub returns-then-b-lt-FIRST_PLAIN : goal.returns-then-b-lt-FIRST_PLAIN
returns-then-b-lt-FIRST_PLAIN c = rw (lt-leb 0x20 c.args.b c.if-b-lt-FIRST_PLAIN.true)

pub returns : goal.returns
returns c = rw (le-leb 0x20 c.args.b c.if-b-lt-FIRST_PLAIN.false)

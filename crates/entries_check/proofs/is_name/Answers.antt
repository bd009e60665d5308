-- `entries_check::is_name` meets its contract: a name is a prefix that is not empty.
-- No loop.
use lib.ListN.{length}
use native.Mathlib.Omega.{arith}
use borrow.Author.Tests.{le-leb, lt-leb}
use Rattle.entries.specs.Names.{is_name}
use Rattle.entries_check.proofs.is_name.Goals as goal

pub returns-then-w-lt1 : goal.returns-then-w-lt1
unfolding is_name
returns-then-w-lt1 c = rw (lt-leb 1 (length c.args.w.now) (omega arith))

pub returns : goal.returns
unfolding is_name
returns c = rw (le-leb 1 (length c.args.w.now) (omega arith)) c.is_prefix.ensures

-- `merge_read::move_on` meets its contract: the entry stays, or the one behind it is read.
-- No loop.
use Prim.Native.Nat.{◌<◌}
use mathlib.Core.Path.{◌≡◌}
use mathlib.Core.Bool.{true}
use native.Mathlib.Omega.{arith}
use lib.ListN.{length}
use Rattle.entries.proofs.Valid.{valid_of}
use Rattle.merge_read.proofs.move_on.Goals as goal

pub returns-then-not-due : goal.returns-then-not-due
returns-then-not-due c = (c.requires.0, rw (c.if-not-due.true) (omega arith))

pub overflow_add-c : goal.overflow_add-c
overflow_add-c c =
    let due : c.args.due ≡ true = c.if-not-due.false in
    let low : c.args.c.index < length c.args.book.now = c.requires.1 due in
    omega (arith, low, (valid_of c.args.book.now c.requires.0.ok).few)

pub next_name-requires : goal.next_name-requires
next_name-requires c =
    let due : c.args.due ≡ true = c.if-not-due.false in
    let low : c.args.c.index < length c.args.book.now = c.requires.1 due in
    let q = c.requires.0 in
    (omega (arith, low), q.long, q.behind low)

pub returns : goal.returns
returns c =
    let due : c.args.due ≡ true = c.if-not-due.false in
    (c.next_name.ensures.0, rw due c.next_name.ensures.1)

-- `sheet_check::row_is` meets its contract: each return is a test of `row_is`, in its order.
-- No loop, so no invariant.
use mathlib.Core.Path.{◌≡◌, sym}
use mathlib.Core.Bool.{◌&&◌}
use lib.ListN.{get_or, length}
use native.Mathlib.Omega.{arith}
use borrow.Author.Tests.{le-leb, lt-leb}
use Rattle.octets.specs.Octets.{below}
use Rattle.entries.specs.Names.{is_name}
use Rattle.octets.proofs.Stores.{part_bytes}
use Rattle.sheet_check.specs.Check.{row_is, row_length, row_name}
use Rattle.sheet_check.proofs.row_is.Goals as goal
use Rattle.sheet_check.proofs.row_is.Goals.{After-is_name}

pub returns-then-s-lt-ENTRY_OVERHEAD : goal.returns-then-s-lt-ENTRY_OVERHEAD
unfolding row_is
returns-then-s-lt-ENTRY_OVERHEAD c =
    let s = c.args.s.now in rw (lt-leb (row_length s) (length s) (omega arith))

pub overflow_cast-len : goal.overflow_cast-len
overflow_cast-len c = omega (arith, c.type_inv.s 0)

pub returns-then-s-len : goal.returns-then-s-len
unfolding row_is
returns-then-s-len c =
    let s = c.args.s.now in
    rw (lt-leb (row_length s) (length s) (omega arith))

-- all its bytes are there
lengths : (c : After-is_name) → let prev = c.args.prev.now in let s = c.args.s.now in
    row_is prev s ≡ (is_name (row_name s) && below prev (row_name s))
unfolding row_is
lengths c = let s = c.args.s.now in rw (le-leb (row_length s) (length s) (omega arith))

named : (c : After-is_name) → is_name (row_name c.args.s.now) ≡ c.is_name.result
named c = let s = c.args.s.now in rw (part_bytes s 1 (get_or s 0 0)) at (sym c.is_name.ensures)

pub returns-then-not-is_name : goal.returns-then-not-is_name
returns-then-not-is_name c =
    let w = (goal.at.returns-then-not-is_name c).After-is_name in
    rw (lengths w, named w, c.if-not-is_name.true)

pub returns : goal.returns
returns c =
    let w = (goal.at.returns c).After-is_name in
    let s = c.args.s.now in
    rw (lengths w, named w, c.if-not-is_name.false) (rw (part_bytes s 1 (get_or s 0 0)) at c.is_below.ensures)

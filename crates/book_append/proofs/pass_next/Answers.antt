-- `book_append::pass_next` meets its contract: the entry is passed behind the name before, and its own name is copied
-- over that one (proofs/Append). No loop.
use Prim.Native.Nat.{◌≤◌}
use mathlib.Core.Path.{refl, sym}
use lib.ListN.{length}
use lib.Seq.{length-take-le}
use native.Mathlib.Omega.{arith}
use Rattle.book_write.proofs.Calls.{name_copied}
use Rattle.book_append.proofs.Append.{one_short, plain_fits, plain_passed}
use Rattle.book_append.proofs.pass_next.Goals as goal

pub slice_bounds-pass_entry-end : goal.slice_bounds-pass_entry-end
slice_bounds-pass_entry-end c =
    let within : c.args.len ≤ length c.args.prev.now = omega (arith, c.requires.0.small, c.requires.1) in
    within

pub slice_bounds-pass_entry-end-2 : goal.slice_bounds-pass_entry-end-2
slice_bounds-pass_entry-end-2 c =
    let within : c.args.len ≤ length c.args.prev.now = omega (arith, c.requires.0.small, c.requires.1) in
    sym (length-take-le c.args.len c.args.prev.now within)

pub pass_entry-end-requires : goal.pass_entry-end-requires
pass_entry-end-requires c = plain_fits c.requires.0

pub returns : goal.returns
returns c =
    let short = one_short (plain_fits c.requires.0) in
    plain_passed c.pass_entry-end.ensures refl refl
    (name_copied c.args.prev.now c.args.name.now (omega (arith, c.requires.1, short)) c.copy.ensures) short

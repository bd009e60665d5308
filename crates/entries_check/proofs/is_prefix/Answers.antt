-- `entries_check::is_prefix` meets its contract: the length is tested before the signs, behind which no half is open.
-- No loop.
use mathlib.Core.Path.{◌∙◌}
use lib.ListN.{length}
use native.Mathlib.Omega.{arith}
use borrow.Author.Tests.{le-leb, lt-leb}
use Rattle.entries.specs.Names.{is_prefix, longest_name}
use Rattle.entries_laws.proofs.Halves.{none_test}
use Rattle.entries_laws.proofs.Signs.{allowed_half}
use Rattle.entries_check.proofs.is_prefix.Goals as goal

pub returns-then-w-gt-LONGEST_NAME : goal.returns-then-w-gt-LONGEST_NAME
unfolding is_prefix
returns-then-w-gt-LONGEST_NAME c = rw (lt-leb (length c.args.w.now) longest_name (omega arith))

pub returns : goal.returns
unfolding is_prefix
returns c =
    let w = c.args.w.now in
    rw (le-leb (length w) longest_name (omega arith), allowed_half w, ← c.half_from.ensures)
    (c.eq.ensures ∙ none_test c.half_from.result)

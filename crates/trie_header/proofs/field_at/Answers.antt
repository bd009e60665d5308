-- `trie_header::field_at` meets its contract: each of the four sizes is read as such.
-- No loop, so no invariant.
use mathlib.Core.Path.{◌∙◌, sym}
use native.Mathlib.Omega.{arith}
use Rattle.trie_header.proofs.Fields.{number-none, number-one}
use Rattle.trie_header.proofs.field_at.Goals as goal

pub returns-in-0 : goal.returns-in-0
returns-in-0 c = rw c.in-0.is (sym (number-none c.args.buf.now c.args.at))

pub returns-in-1 : goal.returns-in-1
returns-in-1 c =
    rw c.in-1.is
    (c.from.ensures ∙ sym (number-one c.args.buf.now c.args.at (omega (arith, c.in-1.is, c.requires.0))))

-- `completion_book::put_position` meets its contract: the name and the score of the position, as one answer entry.
-- No loop, so no invariant.
use mathlib.Core.Path.{◌∙◌, ap}
use lib.ListN.{length}
use native.Mathlib.Omega.{arith}
use Rattle.entries.specs.Entries.{at, entry}
use Rattle.entries.proofs.Same.{entry_eq}
use Rattle.book_rows.proofs.Filling.{short_lem}
use Rattle.answer.proofs.Entries.{length-entry_bytes}
use Rattle.completion_book.proofs.put_position.Goals as goal

pub put_entry-requires : goal.put_entry-requires
put_entry-requires c =
    let l = short_lem c.args.book.now c.requires.0 c.args.position c.requires.1 in
    let e = ap length c.requires.2 in
    (omega (arith, l, e), omega (arith, l, e, c.requires.3))

pub shape_of-dst : goal.shape_of-dst
shape_of-dst c = c.put_entry.auto.dst

pub returns : goal.returns
returns c =
    let here = at c.args.book.now c.args.position in
    let e = entry_eq (entry c.args.name.now c.score.result) here c.requires.2 c.score.ensures in (
      rw (← e) c.put_entry.ensures.0,
      c.put_entry.ensures.1 ∙ omega (arith, length-entry_bytes here, ap length c.requires.2),
    )

-- `page_write::put_entry` meets its contract: the first line without the score, the score, and the further lines.
-- No loop, so no invariant.
use Prim.Native.Nat.{◌+◌, ◌≤◌}
use mathlib.Core.Path.{◌∙◌, ◌≡◌, refl}
use lib.ListN.{length, length-set, set}
use native.Mathlib.Omega.{arith}
use Rattle.page.specs.Page.{line_bytes, page_columns}
use Rattle.page_write.proofs.Writing.{entry_done, first_room, rest_room}
use Rattle.page_write.proofs.put_entry.Goals as goal
use Rattle.page_write.proofs.put_entry.Goals.{After-min-first, After-put_columns}

-- there is room for the first line, and it keeps the length of the buffer
room : (c : After-min-first) → c.args.at + line_bytes ≤ length c.args.dst.now
room c = first_room c.args.row.now c.args.len c.args.score c.args.at c.requires.0 c.requires.2

stored : (c : After-put_columns)
    → length (set c.put_columns.new.dst (c.args.at + page_columns) 10) ≡ length c.args.dst.now
stored c = length-set c.put_columns.new.dst (c.args.at + page_columns) 10 ∙ c.put_columns.auto.dst

pub put_columns-requires : goal.put_columns-requires
put_columns-requires c =
    let r = room (goal.at.put_columns-requires c).After-min-first in
    (omega (arith, r), c.requires.1, omega (arith, c.min-first.ensures))

pub bounds-dst-at : goal.bounds-dst-at
bounds-dst-at c =
    omega (arith, room (goal.at.bounds-dst-at c).After-min-first, c.put_columns.auto.dst)

pub put_decimal-requires : goal.put_decimal-requires
put_decimal-requires c =
    let w = goal.at.put_decimal-requires c in
    (omega arith, omega (arith, room w.After-min-first, stored w.After-put_columns))

pub put_further-requires : goal.put_further-requires
put_further-requires c =
    omega (
      arith,
      rest_room c.args.row.now c.args.len c.args.score c.args.at c.requires.0 c.requires.2 c.min-first.ensures,
      c.put_decimal.auto.dst,
      stored (goal.at.put_further-requires c).After-put_columns,
    )

pub shape_of-dst : goal.shape_of-dst
shape_of-dst c =
    c.put_further.auto.dst ∙ c.put_decimal.auto.dst ∙ stored (goal.at.shape_of-dst c).After-put_columns

pub returns : goal.returns
returns c =
    entry_done c.args.row.now c.args.len c.args.score c.args.at c.requires.0 c.requires.2 c.min-first.ensures refl
    c.put_columns.ensures c.put_decimal.ensures c.put_further.ensures

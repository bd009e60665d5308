-- `page_write::put_line` meets its contract: a blank line, its line feed, and the part in its columns.
-- No loop, so no invariant.
use Prim.Native.Nat.{◌+◌, ◌-◌}
use mathlib.Core.Path.{◌∙◌, ◌≡◌, ap}
use lib.ListN.{length, length-set, set}
use lib.Seq.{length-sets, sets}
use native.Mathlib.Omega.{arith}
use borrow.Rule.Slice.PartMut.{put_mid}
use Rattle.page.specs.Page.{page_columns, spaces}
use Rattle.page_write.proofs.Writing.{blank_filled, line_put}
use Rattle.page_write.proofs.put_line.Goals as goal
use Rattle.page_write.proofs.put_line.Goals.{After-fill}

-- the columns are spaces
blank : (c : After-fill) → let d = c.args.dst.now in let at = c.args.at in
    put_mid at (at + page_columns - at) d c.fill.new.self ≡ sets d at (spaces page_columns)
blank c = blank_filled c.args.dst.now _ c.args.at (omega (arith, c.requires.0)) (c.fill.ensures.after (λ y e. e))

pub returns : goal.returns
returns c =
    c.copy.ensures
    ∙ ap (λ l. sets (set l (c.args.at + page_columns) 10) c.args.at c.args.part.now)
    (blank (goal.at.returns c).After-fill)
    ∙ line_put c.args.dst.now c.args.at c.args.part.now c.requires.1

-- `page_write::put_heading` meets its contract: the 40 bytes are the heading's, and a line feed stands behind them.
-- No loop, so no invariant.
use mathlib.Core.Path.{◌∙◌, ap}
use lib.ListN.{set}
use Rattle.octets.specs.Text.{line_feed}
use Rattle.octets.proofs.Stores.{sets-append}
use Rattle.page.specs.Page.{heading, page_columns}
use Rattle.page_write.proofs.put_heading.Goals as goal

pub returns : goal.returns
unfolding heading
returns c =
    ap (λ l. set l page_columns 10) c.copy.ensures ∙ sets-append c.args.dst.now heading line_feed 0

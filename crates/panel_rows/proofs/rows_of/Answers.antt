-- `panel_rows::rows_of` meets its contract: what completion offers are the rows (proofs/Rows).
use Rattle.entries.proofs.Valid.{valid_of}
use Rattle.panel_rows.proofs.Rows.{rows_offered}
use Rattle.panel_rows.proofs.rows_of.Goals as goal

pub returns : goal.returns
returns c =
    let es = c.args.book.now in
    λ w g. rows_offered es w (valid_of es c.len.ensures.ok).order c.offers.result (c.offers.ensures w g)

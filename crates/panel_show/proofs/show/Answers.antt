-- `panel_show::show` meets its contract: the text and the name on the row, with zeros behind them.
use mathlib.Core.Path.{◌∙◌}
use Rattle.panel.specs.Panel.{panel_of}
use Rattle.panel_show.proofs.show.Goals as goal

pub returns : goal.returns
unfolding panel_of
returns c =
    let name = c.name_on-name.ensures.holds ∙ c.requires.0.name in
    rw (c.cleared-text.ensures, c.cleared-held.ensures, name, c.requires.0.rows)

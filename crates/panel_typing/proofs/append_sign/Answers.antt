-- `panel_typing::append_sign` meets its contract: the sign is stored behind the text (proofs/Text).
use mathlib.Core.Path.{◌≡◌, refl}
use lib.ListN.{length}
use borrow.Author.Rules.{rules}
use Rattle.entries.specs.Names.{longest_name}
use Rattle.panel_typing.proofs.Text.{appends_sign}
use Rattle.panel_typing.proofs.append_sign.Goals as goal

pub returns : goal.returns
returns c =
    let long : length c.args.p.text ≡ longest_name = search rules in
    appends_sign c.args.p long _ c.args.sign.now c.requires c.copy.ensures refl

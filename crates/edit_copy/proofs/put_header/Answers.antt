-- `edit_copy::put_header` meets its contract: nothing, or two bytes. No loop.
use Rattle.edit_copy.proofs.Puts.{header_left, header_stored}
use Rattle.edit_copy.proofs.put_header.Goals as goal

pub returns-in_default : goal.returns-in_default
returns-in_default c = header_left c.args.b _ _ c.in_default.is

pub returns : goal.returns
returns c = header_stored c.args.b _ _ _ c.in-Some.is c.copy.ensures

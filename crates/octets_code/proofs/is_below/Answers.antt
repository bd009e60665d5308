-- `octets_code::is_below` meets its contract: the library's order of slices is byte order. No loop.
use Rattle.std.proofs.Common.{◌∙◌}
use Rattle.octets_code.proofs.Methods.{below_is}
use Rattle.octets_code.proofs.is_below.Goals as goal

pub returns : goal.returns
returns c = c.is_lt.ensures ∙ below_is c.args.a.now c.args.b.now c.cmp.result c.cmp.ensures

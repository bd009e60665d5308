-- `octets_code::starts_with` meets its contract: the library compares `prefix` with as many bytes. No loop.
use Rattle.std.proofs.Common.{◌∙◌}
use Rattle.octets_code.proofs.Methods.{begins_is}
use Rattle.octets_code.proofs.starts_with.Goals as goal

pub returns : goal.returns
returns c = c.starts_with.ensures.value ∙ begins_is c.args.prefix.now c.args.s.now

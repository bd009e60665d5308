-- `octets_code::read_u32` meets its contract, in range and past the end. No loop.
use Rattle.std.proofs.Common.{sym}
use Rattle.octets_code.proofs.Methods.{number_out, read_four}
use Rattle.octets_code.proofs.read_u32.Goals as goal

pub returns-in-Some : goal.returns-in-Some
returns-in-Some c = read_four c.args.s.now c.args.at c.in-Some.bytes c.in-Some.ensures.0 c.in-Some.ensures.1 c.from_be_bytes.ensures

pub returns-in-None : goal.returns-in-None
returns-in-None c = sym (number_out 4 c.args.s.now c.args.at c.in-None.ensures)

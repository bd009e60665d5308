-- `octets_code::read_u16` meets its contract, in range and past the end. No loop.
use Rattle.std.proofs.Common.{sym}
use Rattle.octets_code.proofs.Methods.{number_out, read_two}
use Rattle.octets_code.proofs.read_u16.Goals as goal

pub returns-in-Some : goal.returns-in-Some
returns-in-Some c = read_two c.args.s.now c.args.at c.in-Some.bytes c.in-Some.ensures.0 c.in-Some.ensures.1 c.from_be_bytes.ensures

pub returns-in-None : goal.returns-in-None
returns-in-None c = sym (number_out 2 c.args.s.now c.args.at c.in-None.ensures)

-- `program_print::put_decimal` meets its contract: the digits, copied from the end of ten bytes.
-- No loop, so no invariant.
use mathlib.Core.Path.{refl}
use Rattle.program_print.proofs.Printing.{put_digits}
use Rattle.program_print.proofs.put_decimal.Goals as goal

pub returns : goal.returns
returns c =
    put_digits c.args.out.now c.args.at c.requires refl c.put_decimal-from.ensures c.copy.ensures

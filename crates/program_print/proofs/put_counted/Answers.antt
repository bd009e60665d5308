-- `program_print::put_counted` meets its contract: the word, the number and the line feed, one behind the other.
use Rattle.std.proofs.Common.{length, ◌<◌}
use native.Mathlib.Omega.{arith}
use Rattle.octets.proofs.Decimal.{decimal_most}
use Rattle.octets_laws.proofs.Printed.{put_append, put_byte, put_part}
use Rattle.program_print.proofs.put_counted.Goals as goal
use Rattle.program_print.proofs.put_counted.Goals.{After-put_decimal-end}

-- there is room behind the number
inside : (c : After-put_decimal-end) → c.put_decimal-end.result < length c.put_decimal-end.new.out
inside c =
    let d = c.put_decimal-end in
    omega (arith, d.ensures.ends, d.auto.out, c.copy.auto.dst, decimal_most c.args.v, c.requires)

pub bounds-out-end : goal.bounds-out-end
bounds-out-end c = inside (goal.at.bounds-out-end c).After-put_decimal-end

pub returns : goal.returns
returns c =
    put_append
    (put_append (put_part c.args.out.now c.args.at c.args.word.now (omega (arith, c.requires)) c.copy.ensures)
    c.put_decimal-end.ensures)
    (put_byte _ _ _ (inside (goal.at.returns c).After-put_decimal-end))

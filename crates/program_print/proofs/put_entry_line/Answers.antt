-- `program_print::put_entry_line` meets its contract: score, space, name and line feed, one behind the other.
use Rattle.std.proofs.Common.{length, ◌<◌, ◌+◌, ◌≤◌}
use lib.ListN.{length-set}
use native.Mathlib.Omega.{arith}
use Rattle.octets.proofs.Decimal.{decimal_most}
use Rattle.octets_laws.proofs.Printed.{put_append, put_byte, put_part}
use Rattle.program_print.proofs.put_entry_line.Goals as goal
use Rattle.program_print.proofs.put_entry_line.Goals.{After-put_decimal-end}

-- there is room behind the score: a space, the name and a line feed
room : (c : After-put_decimal-end) →
    c.put_decimal-end.result + length c.args.name.now + 2 ≤ length c.put_decimal-end.new.out
room c =
    omega (arith, c.put_decimal-end.ensures.ends, decimal_most c.args.score, c.requires, c.put_decimal-end.auto.out)

pub bounds-out-end : goal.bounds-out-end
bounds-out-end c = omega (arith, room (goal.at.bounds-out-end c).After-put_decimal-end)

pub bounds-out-last : goal.bounds-out-last
bounds-out-last c =
    simp (c.copy.auto.dst, length-set) (omega (arith, room (goal.at.bounds-out-last c).After-put_decimal-end))

pub returns : goal.returns
returns c =
    let r = room (goal.at.returns c).After-put_decimal-end in
    put_append
    (put_append (put_append c.put_decimal-end.ensures (put_byte _ _ _ (omega (arith, r))))
    (put_part _ _ c.args.name.now (simp length-set (omega (arith, r))) c.copy.ensures))
    (put_byte _ _ _ (simp (c.copy.auto.dst, length-set) (omega (arith, r))))

-- `program_print::put_entry_lines` meets its contract. The loop's invariant: the lines of the entries that are left,
-- written now, give all lines.
use Rattle.program_print.proofs.Printing.{Offering}
use Rattle.program_print.proofs.put_entry_lines.Given as goal

abbrev pub invariant-loop : goal.invariant-loop
invariant-loop l = Offering l.answer l.n l.initial.out l.out l.at l.end l.counter

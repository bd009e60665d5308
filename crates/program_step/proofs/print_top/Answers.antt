-- `program_step::print_top` meets its contract: there is room for the lines of as many entries as can be asked for.
use native.Mathlib.Omega.{arith}
use Rattle.program_print.specs.Printing.{Laid}
use Rattle.sheet.specs.Sheet.{sheet_from}
use Rattle.sheet.proofs.Reading.{length-sheet_from}
use Rattle.program_print.proofs.Printing.{lines_most}
use Rattle.program_step.proofs.Completing.{offered_lines_lem, offered_printable}
use Rattle.program_step.proofs.print_top.Goals as goal

pub put_counted-requires : goal.put_counted-requires
put_counted-requires c =
    let bytes = c.args.answer.now in
    let l : Laid c.in-Ok.counts.offered bytes = (offered_printable bytes c.in-Ok.is c.requires.0).0 in
    let s = sheet_from c.in-Ok.counts.offered bytes in
    omega (
      arith,
      c.put_entry_lines-end.ensures.ends,
      c.put_entry_lines-end.auto.out,
      lines_most s l.sound,
      length-sheet_from c.in-Ok.counts.offered bytes,
      l.few,
      c.requires.1,
    )

pub returns-in-Ok : goal.returns-in-Ok
returns-in-Ok c =
    rw c.in-Ok.is (offered_lines_lem c.args.answer.now c.in-Ok.counts c.put_entry_lines-end.ensures c.put_counted.ensures)

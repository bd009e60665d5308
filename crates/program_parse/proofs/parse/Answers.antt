-- `program_parse::parse` meets its contract: the words in their order.
use Rattle.octets.proofs.Stores.{to_end}
use Rattle.program_parse.proofs.Parsing.{other_line, set_line, set_none, top-line, top-none}
use Rattle.program_parse.proofs.Parsing.{withdraw_line}
use Rattle.program_parse.proofs.parse.Goals as goal

pub returns-in_err-n : goal.returns-in_err-n
returns-in_err-n c =
    let line = c.args.line.now in
    rw c.from_residual.ensures
    (set_none line c.starts_with.ensures c.if-starts_with.true (rw (to_end line 4) at c.in_err-n.ensures))

pub returns-then-starts_with : goal.returns-then-starts_with
returns-then-starts_with c =
    let line = c.args.line.now in
    set_line line c.starts_with.ensures c.if-starts_with.true (rw (to_end line 4) at c.in_ok-n.ensures)

pub returns-in_err-n-2 : goal.returns-in_err-n-2
returns-in_err-n-2 c =
    let line = c.args.line.now in
    rw c.from_residual-in_err-n-2.ensures
    (top-none line c.starts_with.ensures c.if-starts_with.false c.starts_with-2.ensures c.if-starts_with-2.true
    (rw (to_end line 4) at c.in_err-n-2.ensures))

pub returns-then-starts_with-2 : goal.returns-then-starts_with-2
returns-then-starts_with-2 c =
    let line = c.args.line.now in
    top-line line c.starts_with.ensures c.if-starts_with.false c.starts_with-2.ensures c.if-starts_with-2.true
    (rw (to_end line 4) at c.in_ok-n-2.ensures)

pub returns-then-starts_with-3 : goal.returns-then-starts_with-3
returns-then-starts_with-3 c =
    withdraw_line c.args.line.now c.starts_with.ensures c.if-starts_with.false
    c.starts_with-2.ensures
    c.if-starts_with-2.false c.starts_with-3.ensures c.if-starts_with-3.true

pub returns : goal.returns
returns c =
    other_line c.args.line.now c.starts_with.ensures c.if-starts_with.false
    c.starts_with-2.ensures
    c.if-starts_with-2.false c.starts_with-3.ensures c.if-starts_with-3.false

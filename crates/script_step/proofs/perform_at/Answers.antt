-- `script_step::perform_at` meets its contract: the call that the kind names, with the name behind the 7 bytes in
-- front.
use native.Mathlib.Omega.{arith}
use Rattle.script.proofs.Script.{call-stands}
use Rattle.script_step.proofs.Calling.{part_name, set_part, withdraw_part}
use Rattle.script_step.proofs.perform_at.Goals as goal

pub slice_bounds-name-end : goal.slice_bounds-name-end
slice_bounds-name-end c = omega (arith, (call-stands c.args.s.now c.requires).whole, c.read_u16.ensures)

pub bounds-s-0 : goal.bounds-s-0
bounds-s-0 c = omega (arith, (call-stands c.args.s.now c.requires).long)

pub returns-then-s-eq0 : goal.returns-then-s-eq0
returns-then-s-eq0 c =
    let s = c.args.s.now in
    rw (set_part s (part_name s c.read_u16.ensures) c.if-s-eq0.true c.read_u32-score.ensures) at c.perform.ensures

pub returns : goal.returns
returns c =
    let s = c.args.s.now in
    rw (withdraw_part s (part_name s c.read_u16.ensures) c.if-s-eq0.false) at c.perform-2.ensures

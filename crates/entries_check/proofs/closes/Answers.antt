-- `entries_check::closes` meets its contract: each half has one other half. No loop.
use Rattle.entries_check.proofs.Signs.{closes_none, closes_one}
use Rattle.entries_check.proofs.closes.Goals as goal

pub returns-in-Micro : goal.returns-in-Micro
returns-in-Micro c = rw c.in-Micro.is (closes_one 0xB5 c.args.next)

pub returns-in-Ohm : goal.returns-in-Ohm
returns-in-Ohm c = rw c.in-Ohm.is (closes_one 0xA9 c.args.next)

pub returns-in_default : goal.returns-in_default
returns-in_default c =
    rw (closes_none c.args.half c.args.next c.requires c.in_default.not-Micro c.in_default.not-Ohm)

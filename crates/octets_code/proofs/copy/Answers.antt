-- `octets_code::copy` meets its contract: the part of `dst` that is written takes as much of `src` as fits. No loop.
use Rattle.std.proofs.Common.{sym}
use Rattle.octets_code.proofs.Loops.{sets_out}
use Rattle.octets_code.proofs.Methods.{sets_part}
use Rattle.octets_code.proofs.copy.Goals as goal

pub returns-then-at-dst : goal.returns-then-at-dst
returns-then-at-dst c =
    let a = c.args in
    rw c.copy_from_slice.ensures.after (sets_part a.dst.now a.at c.min-n.result a.src.now c.if-at-dst.true c.min-n.ensures)

pub returns-else-at-dst : goal.returns-else-at-dst
returns-else-at-dst c = sym (sets_out c.args.dst.now c.args.at c.args.src.now c.if-at-dst.false)

-- `script_step::put_answer` meets its contract: three numbers stored one behind the other.
use Prim.Native.Nat.{◌+◌}
use mathlib.Core.Path.{◌∙◌, ap}
use lib.Seq.{sets}
use Rattle.octets.specs.Octets.{be}
use Rattle.script_step.proofs.Calling.{stored}
use Rattle.script_step.proofs.put_answer.Goals as goal

pub returns : goal.returns
returns c =
    let t = c.numbers-t.result in
    c.write_u32.ensures ∙ ap (λ l. sets l (c.args.at + 3) (be 4 t.bytes)) c.write_u16.ensures
    ∙ stored _ _ _ c.numbers-t.ensures

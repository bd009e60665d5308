-- `panel_calls::press` meets its contract: a refused key leaves the panel, an accepted one what it leads to.
use mathlib.Core.Path.{sym}
use Rattle.std.proofs.lemmas.Result.{err_from_is_err_and}
use Rattle.panel.proofs.Refused.{press-refused}
use Rattle.panel_calls.proofs.press.Goals as goal

pub returns-in_err-after : goal.returns-in_err-after
returns-in_err-after c =
    let p = err_from_is_err_and c.from_residual.result c.from_residual.ensures.1 in
    let e = c.in_err-after.ensures in
    rw (p.1, p.2) (record { answer = sym e; leaves = sym (press-refused _ _ _ _ e) })

pub returns : goal.returns
returns c = record { answer = sym c.in_ok-after.ensures.0; leaves = sym c.in_ok-after.ensures.1 }

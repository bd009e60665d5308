use mathlib.Core.Path.{◌≡◌}
use lib.ListN.{drop}
use native.Mathlib.Omega.{arith}
use Rattle.std.proofs.Common.{Some}
use Rattle.octets.proofs.Stores.{to_end}
use Rattle.script_calls.specs.Code.{found_length}
use Rattle.script_calls.proofs.Playing.{play_end, play_less, play_on, play_room, play_stands, play_start, play_within}
use Rattle.script_calls.proofs.play.Goals as goal
use Rattle.script_calls.proofs.play.Goals.{In-Some}

-- the length of the call that is performed
found : (c : In-Some) → Some c.in-Some.len ≡ found_length (drop c.loop-len.at c.args.script.now)
found c = rw (to_end c.args.script.now c.loop-len.at) at c.in-Some.ensures

pub loop-len-init : goal.loop-len-init
loop-len-init c = play_start _ c.requires

pub perform_at-answer-requires : goal.perform_at-answer-requires
perform_at-answer-requires c =
    rw (to_end c.args.script.now c.loop-len.at)
    (play_stands c.loop-len.invariant (found (goal.at.perform_at-answer-requires c).In-Some))

pub put_answer-requires : goal.put_answer-requires
put_answer-requires c = (
  c.perform_at-answer.ensures.small,
  play_room c.loop-len.invariant (found (goal.at.put_answer-requires c).In-Some),
)

pub overflow_add-at : goal.overflow_add-at
overflow_add-at c = omega (arith, play_within c.loop-len.invariant (found (goal.at.overflow_add-at c).In-Some))

pub overflow_add-slot : goal.overflow_add-slot
overflow_add-slot c =
    omega (arith, play_room c.loop-len.invariant (found (goal.at.overflow_add-slot c).In-Some), c.loop-len.invariant.out_size)

pub loop-len-smaller : goal.loop-len-smaller
loop-len-smaller c =
    let f = found (goal.at.loop-len-smaller c).In-Some in
    omega (arith, play_within c.loop-len.invariant f, play_less c.loop-len.invariant f)

pub loop-len-preserved : goal.loop-len-preserved
loop-len-preserved c =
    play_on c.loop-len.invariant (found (goal.at.loop-len-preserved c).In-Some) c.perform_at-answer.auto.first
    c.perform_at-answer.auto.second (rw (to_end c.args.script.now c.loop-len.at) at c.perform_at-answer.ensures)
    c.turned_after-turned.ensures c.put_answer.ensures

pub returns : goal.returns
returns c =
    play_end c.loop-len.invariant c.requires (rw (to_end c.args.script.now c.loop-len.at) at c.in_default.ensures)

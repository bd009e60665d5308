-- `script_calls::run` meets its contract: the checks in their order, then "empty" into the first buffer and every call.
use Rattle.script_calls.proofs.Running.{run-damaged, run_done, run_narrow, run_playable, run_short, run_uneven}
use Rattle.script_calls.proofs.run.Goals as goal

pub returns-in_default : goal.returns-in_default
returns-in_default c = run-damaged _ _ _ _ c.in_default.ensures

pub returns-then-first-lt-FRAME_LENGTH : goal.returns-then-first-lt-FRAME_LENGTH
returns-then-first-lt-FRAME_LENGTH c = run_short _ _ _ _ c.in-Some.ensures c.if-first-lt-FRAME_LENGTH.true

pub returns-then-second-first : goal.returns-then-second-first
returns-then-second-first c =
    run_uneven _ _ _ _ c.in-Some.ensures c.if-first-lt-FRAME_LENGTH.false c.if-second-first.true

pub returns-then-out-calls : goal.returns-then-out-calls
returns-then-out-calls c =
    run_narrow _ _ _ _ c.in-Some.ensures c.if-first-lt-FRAME_LENGTH.false c.if-second-first.false c.if-out-calls.true

pub play-turned-requires : goal.play-turned-requires
play-turned-requires c = run_playable _ _ c.in-Some.ensures c.if-out-calls.false

pub returns : goal.returns
returns c =
    run_done _ _ _ _ c.in-Some.ensures c.if-first-lt-FRAME_LENGTH.false c.if-second-first.false c.if-out-calls.false
    c.empty.ensures.left c.play-turned.ensures

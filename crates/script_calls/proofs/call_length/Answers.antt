-- `script_calls::call_length` meets its contract: the tests of a call's front in their order.
-- No loop, so no invariant.
use Rattle.script_calls.proofs.Counting.{cut_none, kind_none, short_none, whole_found}
use Rattle.script_calls.proofs.call_length.Goals as goal

pub returns-then-s-lt-CALL_HEAD : goal.returns-then-s-lt-CALL_HEAD
returns-then-s-lt-CALL_HEAD c = short_none _ c.if-s-lt-CALL_HEAD.true

pub returns-then-s-ge2 : goal.returns-then-s-ge2
returns-then-s-ge2 c = kind_none _ c.if-s-lt-CALL_HEAD.false c.if-s-ge2.true

pub returns-then-s-len : goal.returns-then-s-len
returns-then-s-len c =
    cut_none _ c.if-s-lt-CALL_HEAD.false c.if-s-ge2.false c.read_u16-len.ensures c.if-s-len.true

pub returns : goal.returns
returns c =
    whole_found _ c.if-s-lt-CALL_HEAD.false c.if-s-ge2.false c.read_u16-len.ensures c.if-s-len.false

-- `labels::read_part` meets its contract: the bytes that the read gave are those of the part answered.
-- No loop, so no invariant. Assumes nothing but what reading gives.
use Rattle.labels.proofs.Lending.{fed_read}
use Rattle.labels.proofs.read_part.Goals as goal

pub returns : goal.returns
returns c =
    let all = (fed_read c.read_once-n.new.input c.read_once-n.ensures c.answer_part.ensures.got c.answer_part.ensures.is) in
    record { is = all.0; got = all.1 }

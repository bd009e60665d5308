-- `frame_code::put_frame` meets its contract: the three stores, one after the other. No loop.
use Rattle.frame_code.proofs.Stored.{frame_put}
use Rattle.frame_code.proofs.put_frame.Goals as goal

pub returns : goal.returns
returns c = frame_put _ _ _ _ c.copy.ensures c.write_u32.ensures c.write_u16.ensures

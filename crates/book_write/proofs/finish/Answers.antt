-- `book_write::finish` meets its contract: the peaks are put, then the frame (proofs/Stores). No loop.
use Rattle.book_write.proofs.Stores.{book_finished}
use Rattle.book_write.proofs.finish.Goals as goal

pub returns : goal.returns
returns c = book_finished _ _ _ _ c.put_peaks.ensures c.put_frame.ensures

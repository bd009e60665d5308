-- `answer_write::write_entry` meets its contract: refused where the entry's bytes do not fit, else they stand at the
-- front. No loop, so no invariant.
use mathlib.Core.Path.{refl}
use Rattle.answer_write.proofs.Writing.{entry-refused, entry_written}
use Rattle.answer_write.proofs.write_entry.Goals as goal

pub returns-then-dst-bytes : goal.returns-then-dst-bytes
returns-then-dst-bytes c = entry-refused _ _ c.if-dst-bytes.true

pub returns : goal.returns
returns c =
    entry_written _ _ _ refl c.if-dst-bytes.false _
    c.put_entry.ensures.0

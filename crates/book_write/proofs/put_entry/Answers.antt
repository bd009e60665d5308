-- `book_write::put_entry` meets its contract: what the two writers leave is the entry put (proofs/Stores).
-- No loop.
use Rattle.book_write.proofs.Stores.{entry_put}
use Rattle.book_write.proofs.put_entry.Goals as goal

pub put_fields-requires : goal.put_fields-requires
put_fields-requires c = record { few = c.requires.few; low = c.requires.low; near = c.requires.near }

pub returns : goal.returns
returns c =
    entry_put c.args.slot c.args.dst.now c.args.score c.args.prev.now c.args.name.now
    c.put_fields.ensures c.put_record.ensures

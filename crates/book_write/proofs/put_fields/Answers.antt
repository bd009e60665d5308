-- `book_write::put_fields` meets its contract: the score and the offset (proofs/Stores). No loop.
use Rattle.book_write.proofs.Stores.{fields_put_lem}
use Rattle.book_write.proofs.put_fields.Goals as goal

pub returns : goal.returns
returns c =
    fields_put_lem c.args.slot c.args.dst.now c.args.score c.score_start.ensures c.write_u32.ensures
    c.put_offset.ensures

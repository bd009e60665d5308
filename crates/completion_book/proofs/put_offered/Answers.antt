-- `completion_book::put_offered` meets its contract: the names are unpacked into rows, then the entries are written.
use mathlib.Core.Path.{◌≡◌}
use lib.ListN.{length}
use borrow.Author.Rules.{rules}
use Rattle.entries.specs.Completion.{max_count}
use Rattle.completion_book.proofs.Putting.{offered_fillable, offered_room, offered_written}
use Rattle.completion_book.proofs.put_offered.Goals as goal

pub fill-requires : goal.fill-requires
fill-requires c =
    let long : length c.args.s.offered ≡ max_count = search rules in
    rw c.so_far.ensures
    (offered_fillable c.requires long c.len-entries.ensures.ok c.primed-start.ensures, offered_room c.requires long)

pub put_entries-requires : goal.put_entries-requires
put_entries-requires c =
    let long : length c.args.s.offered ≡ max_count = search rules in
    rw c.so_far-2.ensures
    (offered_written c.requires long c.len-entries.ensures.ok (search rules) (search rules)
    (rw c.so_far.ensures at c.fill.ensures))

-- `trie_write::group` meets its contract. The loop's invariant: the groups behind the index are put, and their lengths
-- are kept in the runs. The loop's measure is the index; the recursion's is the bytes left of a name's 48, then the
-- rows.
use Rattle.std.proofs.Common.{◌*◌, ◌+◌, ◌-◌}
use Rattle.entries.specs.Names.{longest_name}
use Rattle.book_table.specs.Table.{entries}
use Rattle.trie_write.proofs.Turning.{Turning}
use Rattle.trie_write.proofs.+group.Given as goal

abbrev pub decreases-group : goal.decreases-group
decreases-group l = (longest_name - l.rows.d) * 2048 + (l.rows.hi - l.rows.lo)

abbrev pub invariant-loop-i : goal.invariant-loop-i
invariant-loop-i l = Turning (entries l.names l.lens l.scores) l.rows.d l.to.total l.to.back l.to.store l.initial.dst
    l.initial.runs l.count l.dst l.runs l.back l.i

abbrev pub decreases-loop-i : goal.decreases-loop-i
decreases-loop-i l = l.i

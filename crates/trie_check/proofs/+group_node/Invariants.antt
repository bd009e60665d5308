-- `trie_check::group` and `trie_check::node`, which call each other, meet their contracts: each return gives what was
-- read and tested to a law of the walk (proofs/Walking). Invariant of the group's loop: what is walked from the place
-- on gives the walk over the whole group, whose siblings end where `group_end` says (`Going`); measure: the bytes from
-- the place on. Measures of the calls: the bytes from the group's begin on, and those from where the next group is to
-- begin, which is behind the siblings.
use Rattle.std.proofs.Common.{◌*◌, ◌+◌, ◌-◌, length}
use Rattle.trie_check.proofs.Walking.{GroupGoing}
use Rattle.trie_check.proofs.+group_node.Given as goal

abbrev pub decreases-group : goal.decreases-group
decreases-group l = 2 * (length l.buf.now - l.at)

abbrev pub decreases-node : goal.decreases-node
decreases-node l = 2 * (length l.buf.now - l.p.next) + 1

abbrev pub invariant-group-loop-n : goal.invariant-group-loop-n
invariant-group-loop-n l = GroupGoing l.buf l.at l.fn.a l.left l.next l.p l.seen

abbrev pub decreases-group-loop-n : goal.decreases-group-loop-n
decreases-group-loop-n l = length l.buf - l.p.at

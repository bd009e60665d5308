-- `octets_count::top` meets its contract. The loop's invariant: no byte so far is over the largest.
use Rattle.std.proofs.Common.{ℕ, ◌<◌, ◌≤◌, get_or}
use Rattle.octets_count.proofs.top.Given as goal

abbrev pub invariant-loop-x : goal.invariant-loop-x
invariant-loop-x l = (k : ℕ) → k < l.x-index → get_or l.s k 0 ≤ l.most

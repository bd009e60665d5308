-- `octets_count::lows_of_stretch` meets its contract. The loop's invariant: the count is that of the bytes so far, and
-- there are no more of them than bytes.
use Rattle.std.proofs.Common.{◌≡◌, ◌≤◌, take}
use Rattle.octets_count.specs.Counts.{low_count}
use Rattle.octets_count.proofs.lows_of_stretch.Given as goal

abbrev pub invariant-loop-x : goal.invariant-loop-x
invariant-loop-x l = (l.count ≤ l.x-index) × (l.count ≡ low_count (take l.x-index l.s))

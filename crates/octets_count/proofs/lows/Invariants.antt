-- `octets_count::lows` meets its contract. The loop's invariant: the count is that of the stretches so far, and of the
-- bytes behind the last one.
use Rattle.std.proofs.Common.{◌≡◌, ◌+◌, ◌*◌, ◌/◌, drop, length, take}
use Rattle.octets_count.specs.Counts.{low_count, stretch}
use Rattle.octets_count.proofs.lows.Given as goal

abbrev pub invariant-loop-one : goal.invariant-loop-one
invariant-loop-one l =
    l.count ≡ low_count (take (l.one-index * stretch) l.s) + low_count (drop (length l.s / stretch * stretch) l.s)

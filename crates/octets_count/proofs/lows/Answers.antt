use Rattle.std.proofs.Common.{◌≡◌, ◌+◌, ◌*◌, ◌/◌, ap, arith, drop, length, length-drop, length-take, take}
use Rattle.octets_count.specs.Counts.{low_count, stretch}
use Rattle.octets_count.proofs.Laws.{low_all, low_few, low_next, low_none}
use Rattle.octets_count.proofs.lows.Goals as goal

pub loop-one-init : goal.loop-one-init
loop-one-init c = let e = ap low_count c.as_chunks.ensures.back in omega (arith, low_none)

counted : (c : goal.After-lows_of_stretch) → c.loop-one.count + c.lows_of_stretch.result
    ≡ low_count (take ((c.loop-one.one-index + 1) * stretch) c.args.s.now)
    + low_count (drop (length c.args.s.now / stretch * stretch) c.args.s.now)
counted c =
    let s = c.args.s.now in
    let i = c.loop-one.one-index in
    let n = low_next stretch (length s / stretch) s i (omega arith) in
    let e = rw c.as_chunks.ensures.front at c.lows_of_stretch.ensures in
    omega arith

pub overflow_add-count : goal.overflow_add-count
overflow_add-count c =
    let s = c.args.s.now in
    let i = c.loop-one.one-index in
    omega (
      arith,
      counted c,
      low_few (take ((i + 1) * stretch) s),
      length-take ((i + 1) * stretch) s,
      low_few (drop (length s / stretch * stretch) s),
      length-drop (length s / stretch * stretch) s,
    )

pub loop-one-preserved : goal.loop-one-preserved
loop-one-preserved c = counted c

pub returns : goal.returns
returns c =
    let s = c.args.s.now in
    let i : c.loop-one.one-index ≡ length s / stretch = omega arith in
    omega (arith, (rw i at c.loop-one.invariant), low_all (length s / stretch * stretch) s)

use Prim.Native.Nat.{◌+◌}
use mathlib.Core.Path.{refl, sym}
use lib.ListN.{drop, length-drop}
use lib.Seq.{length-take-le}
use native.Mathlib.Omega.{arith}
use Rattle.octets.proofs.Stores.{to_end}
use Rattle.program_run.specs.Feed.{FeedDone}
use Rattle.program.specs.Console.{console_in}
use Rattle.labels.proofs.Lending.{Feeding, feeding_end, feeding_on, feeding_start, ready_on, ready_start}
use Rattle.labels.proofs.answer_part.Goals as goal
use Rattle.labels.proofs.answer_part.Goals.{After-feed-f}

-- what feeding what is left of the part did
did :
    (c : After-feed-f)
    → FeedDone (drop c.loop-used.used c.args.part.now)
    (console_in c.loop-used.kept c.loop-used.turned c.loop-used.line c.loop-used.first c.loop-used.second)
    c.loop-used.out c.feed-f.result c.feed-f.new.line c.feed-f.new.first c.feed-f.new.second c.feed-f.new.out
did c = rw (to_end c.args.part.now c.loop-used.used) at c.feed-f.ensures

-- and how far the part is fed then
gone :
    (c : After-feed-f)
    → Feeding c.args.part.now
    (console_in c.args.s.kept c.args.s.turned c.args.line.now c.args.first.now c.args.second.now)
    (c.loop-used.used + c.feed-f.result.used)
    (console_in c.feed-f.result.kept c.feed-f.result.turned c.feed-f.new.line c.feed-f.new.first c.feed-f.new.second)
gone c = feeding_on c.loop-used.invariant.0 (did c)

pub loop-used-init : goal.loop-used-init
loop-used-init c = (feeding_start _ _, ready_start c.args.first.now c.args.second.now c.requires)

pub feed-f-requires : goal.feed-f-requires
feed-f-requires c = c.loop-used.invariant.1.room

pub slice_bounds-print-end : goal.slice_bounds-print-end
slice_bounds-print-end c =
    omega (arith, (did (goal.at.slice_bounds-print-end c).After-feed-f).printed.inside, c.feed-f.auto.out)

pub slice_bounds-print-end-in-loop-used : goal.slice_bounds-print-end-in-loop-used
slice_bounds-print-end-in-loop-used c =
    let d = did (goal.at.slice_bounds-print-end-in-loop-used c).After-feed-f in
    sym
    (length-take-le c.feed-f.result.bytes c.feed-f.new.out
    (omega (arith, d.printed.inside, c.feed-f.auto.out)))

pub overflow_add-used : goal.overflow_add-used
overflow_add-used c = omega (arith, (gone (goal.at.overflow_add-used c).After-feed-f).within, c)

pub loop-used-smaller : goal.loop-used-smaller
loop-used-smaller c =
    let k = (goal.at.loop-used-smaller c).After-feed-f in
    let a = (did k).ahead (omega (arith, length-drop c.loop-used.used c.args.part.now)) in
    omega (arith, (gone k).within)

pub loop-used-preserved : goal.loop-used-preserved
loop-used-preserved c =
    let k = (goal.at.loop-used-preserved c).After-feed-f in
    (gone k, ready_on c.loop-used.invariant.1 (did k).few c.feed-f.auto.line c.feed-f.auto.first c.feed-f.auto.second c.feed-f.auto.out)

pub returns : goal.returns
returns c =
    record {
      is =
          record {
            few = omega (arith, c.loop-used.invariant.1.room.few);
            state = feeding_end c.loop-used.invariant.0 c.loop-used-test.false;
          };
      got = refl;
    }

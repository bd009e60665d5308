use Prim.Native.Nat.{◌+◌}
use mathlib.Core.Path.{◌≡◌, refl}
use native.Mathlib.Omega.{arith}
use Rattle.octets.proofs.Stores.{part_bytes}
use Rattle.book_check_walk.proofs.Counted.{going_end, going_start, going_turn}
use Rattle.book_check_walk.proofs.walk_plain.Goals as goal
use Rattle.book_check_walk.proofs.walk_plain.Goals.{else-h-limit, then-h-limit}

pub limit-limit-requires : goal.limit-limit-requires
limit-limit-requires c = rw c.begin-s.ensures (omega arith)

pub loop-index-init : goal.loop-index-init
loop-index-init c =
    (going_start _ _ _ _ _ _ c.requires.1 c.requires.2 refl _ c.begin-s.ensures, c.limit-limit.ensures)

pub loop-index-preserved : goal.loop-index-preserved
loop-index-preserved c =
    let v = c.loop-index.invariant in
    let lt = c.loop-index-test.true in
    let long = c.read.ensures.long in
    let got = c.in_ok-h.ensures.read in
    let first = c.low-first.ensures in
    let second = c.low-second.ensures in
    elim c.if-h-limit.branch [
      | then-h-limit w ↦
          let on = rw (part_bytes c.args.buf.now (c.loop-index.at + 2) c.in_ok-h.h.own) at w.pass-s.ensures.0 in
          rw (w.s-is, w.limit-is) (
            going_turn c.requires.2 v.0 lt long got _ on w.pass-s.ensures.1 first.0 second.0 first.1 second.1,
            w.limit-limit-then-h-limit.ensures,
          )
      | else-h-limit w ↦
          rw (w.s-is, w.limit-is) (
            going_turn c.requires.2 v.0 lt long got _ (v.1 _ _ _ _ _ w.if-h-limit.false) v.0.bounded first.0 second.0
                first.1 second.1,
            v.1,
          )
    ]

pub returns : goal.returns
returns c tops lows =
    let e : c.loop-index.index ≡ c.args.n = omega arith in
    let q = going_end c.loop-index.invariant.0 c.loop-index-test.false c.if-at-total.false c.args.l c.requires.3 tops lows
    in
    (q.0, rw c.settle.ensures (rw e at q.1))

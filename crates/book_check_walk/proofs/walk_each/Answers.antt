use mathlib.Core.Path.{◌∙◌, ◌≡◌, refl}
use native.Mathlib.Omega.{arith}
use borrow.Author.Rules.{rules}
use Rattle.book_seek.specs.Seek.{none, settled}
use Rattle.book_seek.proofs.Settling.{settled-early}
use Rattle.book_check_walk.proofs.Reached.{reached_end, reached_on, reached_start}
use Rattle.book_check_walk.proofs.Walking.{walk_end, walk_misplaced, walk_start, walk_turn}
use Rattle.book_check_walk.proofs.walk_each.Goals as goal
use Rattle.book_check_walk.proofs.walk_each.Goals.{else-t-limit, then-t-limit}

pub limit-limit-requires : goal.limit-limit-requires
limit-limit-requires c = rw c.begin-s.ensures (omega arith)

pub loop-index-init : goal.loop-index-init
loop-index-init c =
    let e = c.begin-s.ensures in
    let start = c.args.start in
    let q : settled c.begin-s.result 0 start ≡ none start = rw e (settled-early (none start) 0 start refl) in (
      walk_start _ _ _ _ _ c.requires.1,
      search rules,
      rw e (omega arith),
      λ off. rw q (reached_start _ _ _ _ _),
      c.limit-limit.ensures,
    )

pub returns-then-not-offset_is : goal.returns-then-not-offset_is
returns-then-not-offset_is c =
    walk_misplaced c.loop-index.invariant.0 c.loop-index-test.true c.offset_is.ensures c.if-not-offset_is.true

pub loop-index-preserved : goal.loop-index-preserved
loop-index-preserved c =
    let v = c.loop-index.invariant in
    let lt = c.loop-index-test.true in
    let step = c.in_ok-t.ensures in
    let walked = walk_turn v.0 lt c.offset_is.ensures c.if-not-offset_is.false step.0 refl in
    let long = c.read_record.auto.name ∙ v.1 in
    elim c.if-t-limit.branch [
      | then-t-limit w ↦
          rw (w.s-is, w.limit-is) (
            walked,
            long,
            w.pass-s.ensures.1,
            λ off. reached_on c.args.l.heads off (v.3 off) lt step.0 refl step.1 _ w.pass-s.ensures.0,
            w.limit-limit-then-t-limit.ensures,
          )
      | else-t-limit w ↦
          rw (w.s-is, w.limit-is) (
            walked,
            long,
            v.2,
            λ off. reached_on c.args.l.heads off (v.3 off) lt step.0 refl step.1 _ (v.4 _ _ _ _ _ w.if-t-limit.false),
            v.4,
          )
    ]

pub returns : goal.returns
returns c =
    let v = c.loop-index.invariant in
    let e : c.loop-index.index ≡ c.args.n = omega arith in
    record {
      ends = walk_end v.0 c.loop-index-test.false;
      seeks = λ off.
          rw c.settle.ensures (rw e at (reached_end c.args.l.heads off (v.3 off) c.loop-index-test.false));
    }

use Rattle.std.proofs.Common.{ℕ, ◌*◌, ◌+◌, ◌-◌, ◌<◌, arith, get_or, length-take, refl, subst}
use Rattle.entries.specs.Names.{longest_name}
use Rattle.trie_write_runs.specs.Runs.{no_run}
use Rattle.trie_write.proofs.Turning.{deep, not_one, turn, turn_end, turn_ready, turn_start}
use Rattle.trie_write.proofs.Turning.{under_falls, under_low, under_ready}
use Rattle.trie_write.proofs.+group.Goals as goal

pub loop-i-init : goal.loop-i-init
loop-i-init t c = turn_start c.split-count.ensures.0

pub overflow_add-d : goal.overflow_add-d
overflow_add-d t c =
    let p = c.split-count.ensures in
    omega (
      arith,
      deep c.requires (not_one c.requires c.if-rows-eq1.false) p.0 p.1 c.loop-i.invariant refl c.loop-i-test.true,
    )

pub group-n-requires : goal.group-n-requires
group-n-requires t c =
    let p = c.split-count.ensures in
    let n = not_one c.requires c.if-rows-eq1.false in
    let r = get_or c.loop-i.runs (c.loop-i.i - 1) no_run in (
      subst (λ (x : ℕ). (longest_name - (c.args.rows.d + r.len)) * 2048 + (r.hi - r.lo) < x) c.decreases
          (under_falls c.requires n p.0 p.1 c.loop-i.invariant refl c.loop-i-test.true),
      under_ready c.requires n p.0 p.1 c.loop-i.invariant refl c.loop-i-test.true,
    )

pub overflow_cast-n : goal.overflow_cast-n
overflow_cast-n t c =
    let p = c.split-count.ensures in
    omega (
      arith,
      under_low c.requires (not_one c.requires c.if-rows-eq1.false) p.0 p.1 c.loop-i.invariant refl
          c.loop-i-test.true c.group-n.ensures,
    )

pub loop-i-preserved : goal.loop-i-preserved
loop-i-preserved t c =
    let p = c.split-count.ensures in
    turn c.requires (not_one c.requires c.if-rows-eq1.false) p.0 p.1 c.loop-i.invariant refl c.loop-i-test.true
    c.group-n.ensures c.with_under.result c.with_under.ensures refl

pub finish-requires : goal.finish-requires
finish-requires t c =
    let p = c.split-count.ensures in
    let n = not_one c.requires c.if-rows-eq1.false in (
      omega (arith, p.0.few, length-take c.split-count.result c.loop-i.runs),
      turn_ready c.requires n p.0 p.1 c.loop-i.invariant refl c.loop-i-test.false,
    )

pub returns : goal.returns
returns t c =
    let p = c.split-count.ensures in
    turn_end c.requires (not_one c.requires c.if-rows-eq1.false) p.0 p.1 c.loop-i.invariant refl c.loop-i-test.false
    c.finish.ensures

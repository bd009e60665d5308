use native.Mathlib.Omega.{arith}
use Rattle.std.specs.Prelude.{None, Some}
use Rattle.trie_check_fields.proofs.Ends.{end_cut, end_last, ends_on}
use Rattle.trie_check_fields.proofs.Heads.{Read, read_node}
use Rattle.trie_check_fields.proofs.group_end.Goals as goal
use Rattle.trie_check_fields.proofs.group_end.Goals.{In_ok-n}

-- the node that was read
node : (c : In_ok-n) → Read c.args.buf.now c.loop-n.from c.in_ok-n.n
node c = read_node c.head_at.ensures.is c.head_at.ensures.known c.in_ok-n.was

pub loop-n-init : goal.loop-n-init
loop-n-init c = λ e i w. (i, w)

pub returns-in_err-n : goal.returns-in_err-n
returns-in_err-n c =
    let all =
    c.loop-n.invariant None (end_cut c.args.buf.now c.loop-n.from c.head_at.ensures.is c.in_err-n.was) tt
    in
    rw c.from_residual.ensures (record { is = all.0; known = all.1 })

pub returns-then-n : goal.returns-then-n
returns-then-n c =
    let r = node (goal.at.returns-then-n c).In_ok-n in
    let all = c.loop-n.invariant (Some c.in_ok-n.n.end) (end_last r c.if-n.true) (r.past, r.within) in
    record { is = all.0; known = all.1 }

pub loop-n-smaller : goal.loop-n-smaller
loop-n-smaller c = let r = node (goal.at.loop-n-smaller c).In_ok-n in omega (arith, r.past, r.within)

pub loop-n-preserved : goal.loop-n-preserved
loop-n-preserved c = ends_on c.loop-n.invariant (node (goal.at.loop-n-preserved c).In_ok-n) c.if-n.false

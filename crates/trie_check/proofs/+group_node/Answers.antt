use Rattle.std.proofs.Common.{◌≡◌, ◌∙◌, arith, get_or, set, subst, sym, true, ℕ}
use Rattle.std.specs.Prelude.{None}
use Rattle.octets.proofs.Numbers.{Bytes}
use Rattle.trie_check_fields.proofs.Heads.{Read, read_node}
use Rattle.trie_check_laws.specs.Walk.{mark_place, stands}
use Rattle.trie_check.proofs.Walking.{GroupGoing, falls, going_bad, going_last, going_less, going_on, going_start}
use Rattle.trie_check.proofs.Walking.{group_bad, path_short, rest_cut, rest_out, rest_twice, some_left}
use Rattle.trie_check.proofs.+group_node.Goals as goal
use Rattle.trie_check.proofs.+group_node.Goals.{group-After-node, group-Else-not-fits_here, group-In_ok-n}

-- the node that was read in the loop's place
read : {t : ℕ} (c : group-In_ok-n t) → Read c.args.buf.now c.loop-n.p.at c.in_ok-n.n
read c = read_node c.head_at.ensures.is c.head_at.ensures.known c.in_ok-n.was

-- it stands in its place
fits : {t : ℕ} (c : group-Else-not-fits_here t) → stands c.loop-n.p c.in_ok-n.n ≡ true
fits c = sym c.fits_here.ensures ∙ c.if-not-fits_here.false

-- no sibling before has its key
fresh : {t : ℕ} (c : group-After-node t) → get_or c.loop-n.seen (mark_place c.in_ok-n.n.key) 0 ≡ 0
fresh c = subst (λ q. get_or c.loop-n.seen q 0 ≡ 0) c.mark_place-place.ensures.0 c.if-seen-place-ne0.false

bytes : {t : ℕ} (c : group-After-node t) → Bytes c.args.buf.now
bytes c = λ i. omega (arith, c.type_inv.buf i)

pub group-returns-in_err-next-clause-is : goal.group-returns-in_err-next-clause-is
group-returns-in_err-next-clause-is t c =
    rw c.from_residual.ensures
    (group_bad c.args.buf.now c.args.at c.args.a c.args.left c.group_end.ensures.is c.in_err-next.was)

pub group-loop-n-init : goal.group-loop-n-init
group-loop-n-init t c =
    going_start c.args.buf.now c.args.at c.args.a c.args.left c.in_ok-next.next c.group_end.ensures.is c.in_ok-next.was
    c.group_end.ensures.known c.begin_at-p.ensures

pub group-returns-in_err-n-clause-is : goal.group-returns-in_err-n-clause-is
group-returns-in_err-n-clause-is t c =
    rw c.from_residual-in_err-n.ensures
    (c.loop-n.invariant.onto None
    (rest_cut c.args.buf.now c.loop-n.p c.loop-n.seen c.head_at.ensures.is c.in_err-n.was))

pub group-returns-then-not-fits_here-clause-is : goal.group-returns-then-not-fits_here-clause-is
group-returns-then-not-fits_here-clause-is t c =
    c.loop-n.invariant.onto None
    (rest_out c.args.buf.now c.loop-n.p c.loop-n.seen c.in_ok-n.n
    (read (goal.at.group-returns-then-not-fits_here-clause-is t c).In_ok-n)
    (sym c.fits_here.ensures ∙ c.if-not-fits_here.true))

pub group-returns-then-seen-place-ne0-clause-is : goal.group-returns-then-seen-place-ne0-clause-is
group-returns-then-seen-place-ne0-clause-is t c =
    let w = goal.at.group-returns-then-seen-place-ne0-clause-is t c in
    c.loop-n.invariant.onto None
    (rest_twice c.args.buf.now c.loop-n.p c.loop-n.seen c.in_ok-n.n (read w.In_ok-n)
    (fits w.Else-not-fits_here)
    (λ z. c.if-seen-place-ne0.true (subst (λ q. get_or c.loop-n.seen q 0 ≡ 0) (sym c.mark_place-place.ensures.0) z)))

pub group-returns-in_err-q-clause-is : goal.group-returns-in_err-q-clause-is
group-returns-in_err-q-clause-is t c =
    let w = goal.at.group-returns-in_err-q-clause-is t c in
    rw c.from_residual-in_err-q.ensures
    (going_bad c.loop-n.invariant (bytes w.After-node) (read w.In_ok-n) (fits w.Else-not-fits_here)
    (fresh w.After-node) c.node.ensures.is c.node.ensures.known c.in_err-q.was)

pub group-returns-then-n-clause-is : goal.group-returns-then-n-clause-is
group-returns-then-n-clause-is t c =
    let w = goal.at.group-returns-then-n-clause-is t c in
    going_last c.loop-n.invariant (bytes w.After-node) (read w.In_ok-n) (fits w.Else-not-fits_here)
    (fresh w.After-node) c.node.ensures.is c.node.ensures.known c.in_ok-q.was c.if-n.true

pub group-loop-n-smaller : goal.group-loop-n-smaller
group-loop-n-smaller t c =
    let w = goal.at.group-loop-n-smaller t c in
    going_less c.loop-n.invariant (bytes w.After-node) (read w.In_ok-n) (fits w.Else-not-fits_here)
    (fresh w.After-node) c.node.ensures.is c.node.ensures.known c.in_ok-q.was

pub group-loop-n-preserved : goal.group-loop-n-preserved
group-loop-n-preserved t c =
    let w = goal.at.group-loop-n-preserved t c in
    subst
    (λ i.
    GroupGoing c.args.buf.now c.args.at c.args.a c.args.left c.in_ok-next.next c.in_ok-q.q (set c.loop-n.seen i 1))
    (sym c.mark_place-place.ensures.0)
    (going_on c.loop-n.invariant (bytes w.After-node) (read w.In_ok-n) (fits w.Else-not-fits_here)
    (fresh w.After-node) c.node.ensures.is c.node.ensures.known c.in_ok-q.was c.if-n.false)

pub node-overflow_sub-p : goal.node-overflow_sub-p
node-overflow_sub-p t c = some_left c.args.p c.args.n c.requires.1 c.if-n-eq0.true

pub node-after_node-requires : goal.node-after_node-requires
node-after_node-requires t c = falls c.args.p c.args.n c.requires.1

pub node-overflow_add-path : goal.node-overflow_add-path
node-overflow_add-path t c = omega (arith, path_short c.args.p c.args.n c.requires.1)

pub node-new_score-score-requires : goal.node-new_score-score-requires
node-new_score-score-requires t c = falls c.args.p c.args.n c.requires.1

pub node-after_node-requires-2 : goal.node-after_node-requires-2
node-after_node-requires-2 t c = falls c.args.p c.args.n c.requires.1

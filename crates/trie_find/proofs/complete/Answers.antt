use native.Mathlib.Omega.{arith}
use Rattle.trie_find.proofs.Offering.{offering-full, offering-length, offering-none, offering_on}
use Rattle.trie_find.proofs.Offering.{offering_ready, offering_room, offering_start}
use Rattle.trie_find.proofs.complete.Goals as goal

pub loop-offered-init : goal.loop-offered-init
loop-offered-init c =
    offering_start c.args.trie.now c.args.prefix.now c.args.k c.args.dst.now c.start-queue.result
    c.requires.0 c.requires.1 c.start-queue.ensures

pub shape_of-dst-then-queue-eq0 : goal.shape_of-dst-then-queue-eq0
shape_of-dst-then-queue-eq0 c = offering-length _ _ _ _ _ _ _ _ c.loop-offered.invariant

pub returns-then-queue-eq0 : goal.returns-then-queue-eq0
returns-then-queue-eq0 c =
    rw c.offer.ensures
    (offering-none c.args.trie.now c.args.prefix.now c.args.k c.args.dst.now c.loop-offered.dst c.loop-offered.queue
    c.loop-offered.offered c.loop-offered.bytes c.loop-offered.invariant c.if-queue-eq0.true c.requires.3)

pub next_turn-turn-requires : goal.next_turn-turn-requires
next_turn-turn-requires c =
    offering_ready c.args.trie.now c.args.prefix.now c.args.k c.args.dst.now c.loop-offered.dst c.loop-offered.queue
    c.loop-offered.offered c.loop-offered.bytes c.loop-offered.invariant c.loop-offered-test.true c.requires.2
    (omega (arith, c.if-queue-eq0.false))

pub put_leaf-bytes-requires : goal.put_leaf-bytes-requires
put_leaf-bytes-requires c =
    let g = c.next_turn-turn.ensures c.loop-offered.invariant.ws c.loop-offered.invariant.all in (
      g.done.short,
      offering_room c.args.trie.now c.args.prefix.now c.args.k c.args.dst.now c.loop-offered.dst c.loop-offered.queue
          c.loop-offered.offered c.loop-offered.bytes c.loop-offered.invariant c.loop-offered-test.true c.requires.3,
    )

pub loop-offered-preserved : goal.loop-offered-preserved
loop-offered-preserved c =
    offering_on c.args.trie.now c.args.prefix.now c.args.k c.args.dst.now c.loop-offered.dst c.loop-offered.queue
    c.loop-offered.offered c.loop-offered.bytes c.loop-offered.invariant
    c.loop-offered-test.true
    c.next_turn-turn.result c.put_leaf-bytes.new.dst
    c.put_leaf-bytes.result c.next_turn-turn.ensures
    c.put_leaf-bytes.ensures.0 c.put_leaf-bytes.ensures.1

pub shape_of-dst : goal.shape_of-dst
shape_of-dst c = offering-length _ _ _ _ _ _ _ _ c.loop-offered.invariant

pub returns : goal.returns
returns c =
    rw c.offer-2.ensures
    (offering-full c.args.trie.now c.args.prefix.now c.args.k c.args.dst.now c.loop-offered.dst c.loop-offered.queue
    c.loop-offered.offered c.loop-offered.bytes c.loop-offered.invariant c.loop-offered-test.false c.requires.3)

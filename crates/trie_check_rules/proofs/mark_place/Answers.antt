-- `trie_check_rules::mark_place` meets its contract. No loop, so no invariant.
use native.Mathlib.Omega.{arith}
use borrow.Author.Tests.{le-ltb, lt-ltb}
use Rattle.trie_check_laws.specs.Walk.{mark_count}
use Rattle.trie_check_rules.proofs.mark_place.Goals as goal

pub returns-then-key-lt-MARK_COUNT : goal.returns-then-key-lt-MARK_COUNT
returns-then-key-lt-MARK_COUNT c =
    (rw (lt-ltb c.args.key mark_count c.if-key-lt-MARK_COUNT.true), c.if-key-lt-MARK_COUNT.true)

pub returns : goal.returns
returns c = (rw (le-ltb c.args.key mark_count c.if-key-lt-MARK_COUNT.false), omega arith)

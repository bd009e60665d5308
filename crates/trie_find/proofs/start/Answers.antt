-- `trie_find::start` meets its contract: no entries, no node; for the empty prefix the first group; else where the
-- prefix leads. No loop, so no invariant.
use Prim.Native.Nat.{ℕ}
use mathlib.Core.Path.{◌∙◌, ◌≡◌, ap, sym}
use mathlib.Core.List.{List}
use lib.ListN.{length, length-replicate, replicate}
use Rattle.octets.specs.Octets.{number_at}
use Rattle.trie_find_laws.specs.Places.{score_field_at}
use Rattle.trie_find_steps.specs.Steps.{arrive_at}
use Rattle.trie_find.specs.Offers.{first_waits}
use Rattle.trie_find.proofs.Starting.{empty_start, first_reached, none_start, prefix_start}
use Rattle.trie_find.proofs.start.Goals as goal
use Rattle.trie_find.proofs.start.Goals.{After-arrive-first, Else-read_u16-eq0}

-- the array of the first path
abbrev zeros : List ℕ
zeros = replicate 48 0

zeros-long : length zeros ≡ 48
zeros-long = length-replicate {A = ℕ} 48 0

-- there are entries
some : (c : Else-read_u16-eq0) → number_at 2 c.args.trie.now 5 ≡ 0 → ⊥
some c e = c.if-read_u16-eq0.false (c.read_u16.ensures ∙ e)

-- the first node of the first group
first_is :
    (c : After-arrive-first)
    → c.arrive-first.result ≡ arrive_at c.args.trie.now zeros 0 (score_field_at c.args.trie.now 7) 7 7
first_is c =
    c.arrive-first.ensures ∙ ap (λ s. arrive_at c.args.trie.now zeros 0 s 7 7) c.score_field-score.ensures

pub returns-then-read_u16-eq0 : goal.returns-then-read_u16-eq0
returns-then-read_u16-eq0 c =
    none_start c.args.trie.now c.requires c.args.prefix.now (sym c.read_u16.ensures
    ∙ c.if-read_u16-eq0.true) c.nobody.result c.nobody.ensures

pub score_field-score-requires : goal.score_field-score-requires
score_field-score-requires c =
    (first_reached c.args.trie.now
    c.requires (some (goal.at.score_field-score-requires c).Else-read_u16-eq0)).0

pub arrive-first-requires : goal.arrive-first-requires
arrive-first-requires c =
    first_reached c.args.trie.now
    c.requires (some (goal.at.arrive-first-requires c).Else-read_u16-eq0)

pub returns-then-prefix-eq0 : goal.returns-then-prefix-eq0
returns-then-prefix-eq0 c =
    let w = goal.at.returns-then-prefix-eq0 c in
    let f = first_is w.After-arrive-first in
    empty_start c.args.trie.now c.requires (some w.Else-read_u16-eq0) zeros zeros-long c.args.prefix.now
    c.if-prefix-eq0.true c.only.result (rw f at c.only.ensures.0)
    c.only.ensures.1

pub descend-requires : goal.descend-requires
descend-requires c =
    let w = goal.at.descend-requires c in
    let f = first_is w.After-arrive-first in
    let bs = c.args.trie.now in
    let p = c.args.prefix.now in
    record {
      ws = first_waits bs p;
      toward = rw f
          (prefix_start bs c.requires (some w.Else-read_u16-eq0) zeros zeros-long p c.if-prefix-eq0.false);
    }

pub returns : goal.returns
returns c =
    let w = goal.at.returns c in
    let f = first_is w.After-arrive-first in
    let bs = c.args.trie.now in
    let p = c.args.prefix.now in
    c.descend.ensures (first_waits bs p)
    (rw f
    (prefix_start bs c.requires (some w.Else-read_u16-eq0) zeros zeros-long p
    c.if-prefix-eq0.false))

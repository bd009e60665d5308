-- `trie_find_steps::next_sibling` meets its contract: the node behind, after the path in front of the node's own label.
-- No loop, so no invariant.
use Prim.Native.Nat.{◌-◌}
use mathlib.Core.Path.{◌∙◌, ◌≡◌, ap, sym}
use native.Mathlib.Omega.{arith}
use Rattle.trie_find_laws.specs.Places.{score_field_at}
use Rattle.trie_find_steps.specs.Steps.{FitsPath, behind_of, front_of}
use Rattle.trie_find_steps.proofs.Fields.{arrive_same}
use Rattle.trie_find_steps.proofs.next_sibling.Goals as goal

pub score_field-requires : goal.score_field-requires
score_field-requires c = rw (← c.behind-at.ensures) at c.requires.next.0

pub overflow_sub-score : goal.overflow_sub-score
overflow_sub-score c =
    let e : c.score_field.result ≡ score_field_at c.args.trie.now
    (behind_of c.args.trie.now c.args.x) =
    c.score_field.ensures
    ∙ ap (score_field_at c.args.trie.now) c.behind-at.ensures
    in
    omega (arith, e, c.requires.lower)

pub arrive-requires : goal.arrive-requires
arrive-requires c =
    let bs = c.args.trie.now in
    let x = c.args.x in
    let e : front_of bs x ≡ x.len - c.label_length.result = ap (λ n. x.len - n)
    (sym c.label_length.ensures) in
    let i : FitsPath bs (front_of bs x) c.behind-at.result = rw
    (← c.behind-at.ensures) at c.requires.next in
    (i.0, (rw e at i.1))

pub returns : goal.returns
returns c =
    let bs = c.args.trie.now in
    let x = c.args.x in
    let e = c.behind-at.ensures in
    c.arrive.ensures
    ∙ arrive_same bs x.path _ (front_of bs x) _ (x.score - score_field_at bs (behind_of bs x)) _ (behind_of bs x) _ _
    (ap (λ n. x.len - n) c.label_length.ensures)
    (ap (λ n. x.score - n) (c.score_field.ensures ∙ ap (score_field_at bs) e))
    e
    c.from_behind-from.ensures

-- `trie_find_steps::label_at` meets its contract: the part behind the header byte and the two fields.
-- No loop, so no invariant.
use Prim.Native.Nat.{◌+◌}
use mathlib.Core.Path.{◌∙◌, ◌≡◌, ap}
use lib.ListN.{drop, take}
use native.Mathlib.Omega.{arith}
use Rattle.trie.specs.Reading.{label_length}
use Rattle.trie_find_laws.specs.Places.{header_at, label_from}
use Rattle.trie_find_steps.proofs.label_at.Goals as goal

pub returns : goal.returns
returns c =
    let bs = c.args.trie.now in
    let at = c.args.at in
    let s = c.score_size.result in
    let k = c.child_size.result in
    let start : at + 1 + s + k ≡ label_from bs at = omega (
      arith,
      c.score_size.ensures,
      c.child_size.ensures,
    ) in
    c.label_part.ensures
    ∙ ap (λ n. take n (drop (at + 1 + s + k) bs)) c.label_length-len.ensures
    ∙ ap (λ i. take (label_length (header_at bs at)) (drop i bs)) start

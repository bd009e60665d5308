-- `trie_find_steps::children_at` meets its contract: the number behind the score field, of the size that the header
-- says, counted from `from`. No loop, so no invariant.
use Prim.Native.Nat.{◌+◌}
use mathlib.Core.Path.{◌∙◌, ◌≡◌, ap, sym}
use native.Mathlib.Omega.{arith}
use Rattle.octets.specs.Octets.{number_at}
use Rattle.trie.specs.Reading.{child_size}
use Rattle.trie_find_laws.specs.Places.{child_field_at, header_at}
use Rattle.trie.proofs.Header.{child_most}
use Rattle.trie_find_steps.proofs.children_at.Goals as goal

pub field_at-field-requires : goal.field_at-field-requires
field_at-field-requires c =
    let m = child_most (header_at c.args.trie.now c.args.at) in (
      omega (arith, c.child_size-size.ensures, c.score_size.ensures, c.requires.0),
      rw c.child_size-size.ensures m.0,
      λ q. m.1 (sym c.child_size-size.ensures ∙ q),
    )

pub returns : goal.returns
returns c =
    let bs = c.args.trie.now in
    let at = c.args.at in
    let field : c.field_at-field.result ≡ child_field_at bs at =
    c.field_at-field.ensures
    ∙ ap (λ n. number_at n bs (at + 1 + c.score_size.result)) c.child_size-size.ensures
    ∙ ap (λ n. number_at (child_size (header_at bs at)) bs (at + 1 + n)) c.score_size.ensures
    in
    ap (λ n. c.args.from + n) field

-- `trie_find_steps::score_field` meets its contract: the number behind the header byte, of the size that the header
-- says. No loop, so no invariant.
use Prim.Native.Nat.{◌+◌}
use mathlib.Core.Path.{◌∙◌, ap, sym}
use native.Mathlib.Omega.{arith}
use Rattle.octets.specs.Octets.{number_at}
use Rattle.trie_find_laws.specs.Places.{header_at}
use Rattle.trie.proofs.Header.{score_most}
use Rattle.trie_find_steps.proofs.score_field.Goals as goal

pub field_at-requires : goal.field_at-requires
field_at-requires c =
    let h = header_at c.args.trie.now c.args.at in
    let m = score_most h (omega (arith, c.shared_slice_known-1.given c.args.at)) in (
      omega (arith, c.score_size-size.ensures, c.requires),
      rw c.score_size-size.ensures m.0,
      λ q. m.1 (sym c.score_size-size.ensures ∙ q),
    )

pub returns : goal.returns
returns c =
    c.field_at.ensures ∙ ap (λ n. number_at n c.args.trie.now (c.args.at + 1)) c.score_size-size.ensures

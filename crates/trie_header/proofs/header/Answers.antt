-- `trie_header::header` meets its contract: the codes, the mark and the label's length have no bit in common
-- (proofs/Packed). No loop, so no invariant.
use Rattle.trie_header.proofs.Packed.{header_packed, is_bit}
use Rattle.trie_header.proofs.header.Goals as goal

pub returns : goal.returns
returns c =
    header_packed c.args.score c.args.child c.args.last c.args.label c.requires.0 c.requires.1 c.requires.2
    c.code_of-high.ensures c.code_of-low.ensures (is_bit c.args.last c.from-mark.ensures)

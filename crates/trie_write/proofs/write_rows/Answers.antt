-- `trie_write::write_rows` meets its contract: the groups are measured, then the frame is stored and the groups behind
-- it. No loop, so no invariant.
use Prim.Native.Nat.{◌≤◌}
use mathlib.Core.Path.{◌∙◌, ◌≡◌, ap, refl}
use mathlib.Core.Bool.{false≢true}
use lib.ListN.{length}
use native.Mathlib.Omega.{arith}
use Rattle.trie_write.proofs.Whole.{measured, ready, refused, size_is, small, wrote}
use Rattle.trie_write.proofs.write_rows.Goals as goal
use Rattle.trie_write.proofs.write_rows.Goals.{After-group-size}

low : (c : After-group-size) → c.group-size.result ≤ 802816
low c = small c.requires.0 c.requires.1 c.highest_of-high.ensures c.group-size.ensures

pub highest_of-high-requires : goal.highest_of-high-requires
highest_of-high-requires c = (c.requires.0, omega arith, omega arith)

pub group-size-requires : goal.group-size-requires
group-size-requires c =
    ready c.requires.0 c.requires.1 c.highest_of-high.ensures (λ t. absurd (false≢true t)) (λ t. absurd (false≢true t))

pub overflow_add-total : goal.overflow_add-total
overflow_add-total c = omega (arith, low (goal.at.overflow_add-total c).After-group-size)

pub shape_of-dst-then-dst-total : goal.shape_of-dst-then-dst-total
shape_of-dst-then-dst-total c =
    ap length (measured c.requires.0 c.requires.1 c.highest_of-high.ensures c.group-size.ensures)

pub returns-then-dst-total : goal.returns-then-dst-total
returns-then-dst-total c =
    refused c.requires.0 c.requires.1 c.highest_of-high.ensures c.group-size.ensures c.if-dst-total.true

pub put_frame-requires : goal.put_frame-requires
put_frame-requires c =
    (omega (arith, low (goal.at.put_frame-requires c).After-group-size), omega (arith, c.requires.0.few))

pub group-requires : goal.group-requires
group-requires c =
    let kept : length c.put_frame.new.dst ≡ length c.group-size.new.dst = c.put_frame.auto.dst in
    ready c.requires.0 c.requires.1 c.highest_of-high.ensures
    (λ t. omega (arith, size_is c.requires.0 c.requires.1 c.highest_of-high.ensures c.group-size.ensures))
    (λ t. omega (arith, kept, c.if-dst-total.false))

pub shape_of-dst : goal.shape_of-dst
shape_of-dst c =
    let kept : length c.put_frame.new.dst ≡ length c.group-size.new.dst = c.put_frame.auto.dst in
    c.group.auto.dst
    ∙ kept
    ∙ ap length (measured c.requires.0 c.requires.1 c.highest_of-high.ensures c.group-size.ensures)

pub returns : goal.returns
returns c =
    wrote c.requires.0 c.requires.1 c.highest_of-high.ensures c.group-size.ensures
    c.if-dst-total.false refl
    c.put_frame.ensures c.group.ensures

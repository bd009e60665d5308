-- `head` meets its contract: an empty part where the companion refuses, else the head's part.
-- No loop, so no invariant.
use mathlib.Core.Path.{◌∙◌}
use native.Mathlib.Omega.{arith}
use Rattle.lookup_head_calls.proofs.Companion.{head_none, head_refused, head_some}
use Rattle.lookup_head_calls.proofs.head.Goals as goal

pub returns-in_default : goal.returns-in_default
returns-in_default c = head_refused _ _ c.in_default.ensures

pub first_name-requires : goal.first_name-requires
first_name-requires c = omega (arith, c.len.ensures.count, c.has_head.ensures.1 c.if-has_head.true)

pub returns-then-has_head : goal.returns-then-has_head
returns-then-has_head c =
    let k = c.in-Ok.ensures in
    let e = c.book-held.ensures ∙ k.entries in
    c.first_name.ensures
    ∙ head_some _ _ k.is_it e c.len.ensures.count c.has_head.ensures.0 c.if-has_head.true

pub returns : goal.returns
returns c =
    let k = c.in-Ok.ensures in
    let e = c.book-held.ensures ∙ k.entries in
    head_none _ _ k.is_it e c.len.ensures.count c.has_head.ensures.0 c.if-has_head.false

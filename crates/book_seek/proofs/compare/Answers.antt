-- `book_seek::compare` meets its contract: each return is one of the laws of comparing (proofs/Seeking).
-- No loop, so no invariant.
use Prim.Native.Nat.{◌+◌, ◌≤◌}
use mathlib.Core.Path.{◌≡◌}
use lib.ListN.{drop, length, length-drop}
use native.Mathlib.Omega.{arith}
use borrow.Author.Rules.{rules}
use Rattle.octets.specs.Octets.{common}
use Rattle.octets.proofs.Coding.{common_le}
use Rattle.octets.proofs.Stores.{to_end}
use Rattle.book_seek.proofs.Seeking.{keeps_even, keeps_less, keeps_more}
use Rattle.book_seek.proofs.compare.Goals as goal
use Rattle.book_seek.proofs.compare.Goals.{After-common_prefix-more}

-- where as many bytes are kept as are shared, what is left of the key is compared with the rest
counts :
    (c : After-common_prefix-more)
    → c.common_prefix-more.result ≡ common c.args.rest.now (drop c.args.shared c.args.key.now)
counts c = rw (to_end c.args.key.now c.args.shared) at c.common_prefix-more.ensures

within : (c : After-common_prefix-more) → c.args.shared + c.common_prefix-more.result ≤ length c.args.key.now
within c =
    let left = drop c.args.shared c.args.key.now in
    omega (arith, counts c, common_le c.args.rest.now left, length-drop c.args.shared c.args.key.now, c.requires)

pub returns-then-shared-kept : goal.returns-then-shared-kept
returns-then-shared-kept c = (keeps_more _ _ _ _ c.if-shared-kept.true, search rules)

pub returns-then-kept-shared : goal.returns-then-kept-shared
returns-then-kept-shared c = (keeps_less _ _ _ _ c.if-kept-shared.true, omega arith)

pub overflow_add-result : goal.overflow_add-result
overflow_add-result c = omega (arith, within (goal.at.overflow_add-result c).After-common_prefix-more)

pub returns : goal.returns
returns c =
    let p = (goal.at.returns c).After-common_prefix-more in
    let a = c.args in (
      keeps_even a.key.now a.kept a.rest.now a.shared (omega arith) (counts p) _
          (rw (to_end a.key.now a.shared) at c.order_of.ensures),
      within p,
    )

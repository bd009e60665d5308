-- `lookup_find::find_in` meets its contract: the place with its score, or none for a gap.
-- No loop, so no invariant.
use borrow.Author.Tests.{not-false, not-true}
use Rattle.lookup_find.proofs.Finding.{found_gap, found_there}
use Rattle.lookup_find.proofs.find_in.Goals as goal

pub returns-then-not-s : goal.returns-then-not-s
returns-then-not-s c =
    let a = c.args in
    found_gap a.book.now a.s (not-true a.s.same c.if-not-s.true)

pub returns : goal.returns
returns c =
    let a = c.args in
    found_there a.book.now a.s (not-false a.s.same c.if-not-s.false) c.score_at.ensures

-- `program_run::line_length` meets its contract: the first line feed, or the end.
use Rattle.std.proofs.Common.{ℕ, ◌≡◌, ◌≢◌, ◌∙◌, rules}
use Rattle.std.proofs.lemmas.Iterator.{IsFirst-from_position, YieldsList-from_slice}
use borrow.Author.Tests.{tests}
use Rattle.program_run.proofs.Feeding.{line_first}
use Rattle.program_run.proofs.line_length.Goals as goal

pub returns : goal.returns
returns c =
    let s = c.args.s.now in
    let first =
    IsFirst-from_position c.position.new.self _ _ (λ (x : ℕ). x ≡ 10) (λ (x : ℕ). x ≢ 10) c.position.ensures.ran
    (YieldsList-from_slice s (cc))
    (λ x q k. search (rules, tests))
    (λ x q k. search (rules, tests))
    in
    c.unwrap_or.ensures ∙ line_first s c.position.result first

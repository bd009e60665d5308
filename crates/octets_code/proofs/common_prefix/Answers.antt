-- `octets_code::common_prefix` meets its contract: it is where the lists' first pair of unequal bytes stands, or the
-- length of the shorter one. No loop.
use Rattle.std.proofs.Common.{◌≡◌, ◌≢◌, ℕ, ◌∙◌, rules}
use Rattle.std.proofs.lemmas.Iterator.{IsFirst-from_position, YieldsList-from_slice, YieldsList-from_zip}
use borrow.Author.Tests.{tests}
use Rattle.octets_code.proofs.Methods.{common_first}
use Rattle.octets_code.proofs.common_prefix.Goals as goal

pub returns : goal.returns
returns c =
    let a = c.args.a.now in
    let b = c.args.b.now in
    let first =
    IsFirst-from_position c.position.new.self _ _ (λ (p : ℕ × ℕ). p.0 ≢ p.1) (λ (p : ℕ × ℕ). p.0 ≡ p.1) c.position.ensures.ran
    (YieldsList-from_zip (YieldsList-from_slice a (cc)) (YieldsList-from_slice b (cc)))
    (λ x q k. search (rules, tests))
    (λ x q k. search (rules, tests))
    in
    c.unwrap_or.ensures ∙ rw c.min.ensures (common_first a b c.position.result first)

-- `trie_calls::complete_trie` meets its contract: the checks in the table's order, then the completion.
-- No loop, so no invariant.
use mathlib.Core.Path.{◌∙◌, ◌≡◌, sym}
use mathlib.Core.Bool.{false, true}
use native.Mathlib.Omega.{arith}
use borrow.Author.Tests.{le-ltb, lt-ltb}
use Rattle.std.specs.Prelude.{ℕ, Err, None, Result}
use Rattle.std.proofs.lemmas.Result.{err_from_is_err_and}
use Rattle.answer.specs.declared.Refusal.{Refusal}
use Rattle.answer.specs.declared.Refusal.TheVariants as refusal
use Rattle.entries.specs.Completion.{max_count}
use Rattle.entries.specs.Names.{is_prefix}
use Rattle.completion.specs.Complete.{bad_count}
use Rattle.trie.specs.Reading.{read_trie}
use Rattle.frame_code.proofs.Held.{image_damaged, image_held}
use Rattle.trie_find.specs.Offers.{is_trie}
use Rattle.trie_calls.proofs.Calling.{count_good, count_over, count_zero, no_count, no_prefix, no_room_lem, no_trie}
use Rattle.trie_calls.proofs.Calling.{offers_all}
use Rattle.trie_calls.proofs.complete_trie.Goals as goal
use Rattle.trie_calls.proofs.complete_trie.Goals.{Else-k-gt-MAX_COUNT, Else-not-is_prefix, In_ok-ok_or}
use Rattle.trie_calls.proofs.complete_trie.Goals.{then-k-eq0-via-then-k-eq0}
use Rattle.trie_calls.proofs.complete_trie.Goals.{then-k-eq0-via-else-k-eq0+then-k-gt-MAX_COUNT}

-- what is known behind each check
trie_there : (w : In_ok-ok_or) → is_trie w.args.trie.now ≡ true
trie_there w =
    (image_held (read_trie w.args.trie.now) w.check.ensures (rw w.in_ok-ok_or.was at w.ok_or.ensures.ok_part)).0

prefix_there : (w : Else-not-is_prefix) → is_prefix w.args.prefix.now ≡ true
prefix_there w = sym w.is_prefix.ensures ∙ w.if-not-is_prefix.false

good : (w : Else-k-gt-MAX_COUNT) → bad_count max_count w.args.k ≡ false
good w = count_good w.args.k w.if-k-eq0.false w.if-k-gt-MAX_COUNT.false

pub returns-in_err-ok_or : goal.returns-in_err-ok_or
returns-in_err-ok_or c =
    let none : c.check.result ≡ None = rw c.in_err-ok_or.was at c.ok_or.ensures.ok_part in
    let said : ◌≡◌ {A = Result ℕ Refusal} (Err c.in_err-ok_or.field-0.0) (Err refusal.NotLaidOut) =
    rw none at c.in_err-ok_or.ensures.value
    in
    let p = err_from_is_err_and c.from_residual.result c.from_residual.ensures.1 in
    let e : p.0 ≡ refusal.NotLaidOut = cc in
    rw (p.1, e) (no_trie _ _ _ _ (image_damaged (read_trie c.args.trie.now) c.check.ensures none))

pub returns-then-not-is_prefix : goal.returns-then-not-is_prefix
returns-then-not-is_prefix c =
    no_prefix _ _ _ _ (trie_there (goal.at.returns-then-not-is_prefix c).In_ok-ok_or)
    (sym c.is_prefix.ensures ∙ c.if-not-is_prefix.true)

pub returns-then-k-eq0 : goal.returns-then-k-eq0
returns-then-k-eq0 c =
    let w = goal.at.returns-then-k-eq0 c in
    no_count _ _ _ _ (trie_there w.In_ok-ok_or) (prefix_there w.Else-not-is_prefix)
    (elim c.then-k-eq0.branch [
      | then-k-eq0-via-then-k-eq0 v ↦ count_zero _ v.if-k-eq0.true
      | then-k-eq0-via-else-k-eq0+then-k-gt-MAX_COUNT v ↦ count_over _ v.if-k-eq0.false v.if-k-gt-MAX_COUNT.true
    ])

pub returns-then-dst-k : goal.returns-then-dst-k
returns-then-dst-k c =
    let w = goal.at.returns-then-dst-k c in
    no_room_lem _ _ _ _ (trie_there w.In_ok-ok_or) (prefix_there w.Else-not-is_prefix) (good w.Else-k-gt-MAX_COUNT)
    (lt-ltb _ _ c.if-dst-k.true)

pub complete-requires : goal.complete-requires
complete-requires c =
    (trie_there (goal.at.complete-requires c).In_ok-ok_or, omega arith, omega arith, omega arith)

pub returns : goal.returns
returns c =
    let w = goal.at.returns c in
    offers_all _ _ _ _ (trie_there w.In_ok-ok_or) (prefix_there w.Else-not-is_prefix) (good w.Else-k-gt-MAX_COUNT)
    (le-ltb _ _ c.if-dst-k.false) c.complete.result _ c.complete.ensures

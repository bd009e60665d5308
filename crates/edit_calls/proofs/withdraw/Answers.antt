-- `edit_calls::withdraw` meets its contract: the checks in the table's order, then the book without the name
-- (proofs/Editing). No loop, so no invariant.
use Rattle.std.proofs.lemmas.Result.{err_from_is_err_and}
use mathlib.Core.Path.{◌∙◌, ◌≡◌, ap, sym}
use mathlib.Core.Bool.{true}
use mathlib.Core.List.{[]}
use lib.ListN.{length}
use Rattle.entries.specs.Names.{is_name}
use Rattle.lookup_find.proofs.Finding.{place_low}
use Rattle.edit_calls.proofs.Editing.{gone, gone-asked, not_held, withdraw_refused, withdraw_unnamed}
use Rattle.edit_calls.proofs.withdraw.Goals as goal
use Rattle.edit_calls.proofs.withdraw.Goals.{Else-not-is_name}

-- the name is allowed
allowed : (c : Else-not-is_name) → is_name c.args.name.now ≡ true
allowed c = sym c.is_name.ensures ∙ c.if-not-is_name.false

pub returns-in_err-c : goal.returns-in_err-c
returns-in_err-c c =
    let p = err_from_is_err_and c.from_residual.result c.from_residual.ensures.1 in
    rw (p.1, p.2) (withdraw_refused c.in_err-c.ensures _ _)

pub returns-then-not-is_name : goal.returns-then-not-is_name
returns-then-not-is_name c =
    withdraw_unnamed _ _ _ c.in_ok-c.ensures.is_it (sym c.is_name.ensures ∙ c.if-not-is_name.true)

pub find_in-requires : goal.find_in-requires
find_in-requires c =
    let k = c.in_ok-c.ensures in place_low _ _ k.is_it k.located

pub returns-in_default : goal.returns-in_default
returns-in_default c =
    let k = c.in_ok-c.ensures in
    let a = allowed (goal.at.returns-in_default c).Else-not-is_name in
    not_held _ _ _ k.is_it a k.located k.entries c.find_in.result c.find_in.ensures c.in_default.is

pub write_without-requires : goal.write_without-requires
write_without-requires c =
    let k = c.in_ok-c.ensures in
    let a = allowed (goal.at.write_without-requires c).Else-not-is_name in
    rw c.today.ensures
    (gone-asked _ _ [] k.is_it a k.located k.entries c.find_in.result c.find_in.ensures c.in-Some.is
    (c.len-n.ensures.count ∙ ap length c.book.ensures))

pub returns : goal.returns
returns c =
    let k = c.in_ok-c.ensures in
    let a = allowed (goal.at.returns c).Else-not-is_name in
    gone _ _ _ k.is_it a k.located k.entries c.find_in.result c.find_in.ensures c.in-Some.is
    (rw c.today.ensures at c.write_without.ensures)

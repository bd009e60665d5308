-- `edit_calls::set` meets its contract: the checks in the table's order, then the score at the name's place or the new
-- entry (proofs/Editing). No loop, so no invariant.
use Rattle.std.proofs.lemmas.Result.{err_from_is_err_and}
use mathlib.Core.Path.{◌∙◌, ◌≡◌, ap, sym}
use mathlib.Core.Bool.{true}
use mathlib.Core.List.{[]}
use lib.ListN.{length}
use native.Mathlib.Omega.{arith}
use Rattle.entries.specs.Names.{is_name}
use Rattle.book.specs.Book.{in_book}
use Rattle.lookup_find.proofs.Finding.{place_inside}
use Rattle.edit_calls.proofs.Editing.{held-set, new_asked, new_set, set_full, set-refused, set_unnamed}
use Rattle.edit_calls.proofs.set.Goals as goal
use Rattle.edit_calls.proofs.set.Goals.{After-len-n, Else-not-is_name}

-- the name is allowed
allowed : (c : Else-not-is_name) → is_name c.args.name.now ≡ true
allowed c = sym c.is_name.ensures ∙ c.if-not-is_name.false

pub returns-in_err-c : goal.returns-in_err-c
returns-in_err-c c =
    let p = err_from_is_err_and c.from_residual.result c.from_residual.ensures.1 in
    rw (p.1, p.2) (set-refused c.in_err-c.ensures _ _ _)

pub returns-then-not-is_name : goal.returns-then-not-is_name
returns-then-not-is_name c =
    set_unnamed _ _ _ c.in_ok-c.ensures.is_it (sym c.is_name.ensures ∙ c.if-not-is_name.true) _

-- what the search told, and the place behind it
pub write_score-requires : goal.write_score-requires
write_score-requires c =
    let k = c.in_ok-c.ensures in place_inside _ _ k.is_it k.located (c.book-held.ensures ∙ k.entries) c.if-found.true

pub returns-then-found : goal.returns-then-found
returns-then-found c =
    let k = c.in_ok-c.ensures in
    let a = allowed (goal.at.returns-then-found c).Else-not-is_name in
    held-set _ _ _ k.is_it a k.located c.if-found.true (c.book-held.ensures ∙ k.entries) _ c.write_score.ensures

-- how many entries the book has
counted : (c : After-len-n) → c.len-n.result ≡ length (in_book c.args.book.now)
counted c = c.len-n.ensures.count ∙ ap length (c.book-held.ensures ∙ c.in_ok-c.ensures.entries)

pub returns-then-n-ge-MAX_ENTRIES : goal.returns-then-n-ge-MAX_ENTRIES
returns-then-n-ge-MAX_ENTRIES c =
    let k = c.in_ok-c.ensures in
    let a = allowed (goal.at.returns-then-n-ge-MAX_ENTRIES c).Else-not-is_name in
    let m = counted (goal.at.returns-then-n-ge-MAX_ENTRIES c).After-len-n in
    set_full _ _ _ k.is_it a k.located c.if-found.false m _ c.if-n-ge-MAX_ENTRIES.true

pub write_with-requires : goal.write_with-requires
write_with-requires c =
    let k = c.in_ok-c.ensures in
    let a = allowed (goal.at.write_with-requires c).Else-not-is_name in
    let m = counted (goal.at.write_with-requires c).After-len-n in
    rw c.today.ensures
    (new_asked _ _ [] k.is_it a k.located c.if-found.false m (omega (arith, c.if-n-ge-MAX_ENTRIES.false)))

pub returns : goal.returns
returns c =
    let k = c.in_ok-c.ensures in
    let a = allowed (goal.at.returns c).Else-not-is_name in
    let m = counted (goal.at.returns c).After-len-n in
    new_set _ _ _ k.is_it a k.located c.if-found.false m _ (omega (arith, c.if-n-ge-MAX_ENTRIES.false))
    (rw c.today.ensures at c.write_with.ensures)

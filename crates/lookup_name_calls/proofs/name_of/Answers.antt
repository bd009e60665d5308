-- `lookup_name_calls::name_of` meets its contract: what finding declines with, or the given name with its score.
-- No loop, so no invariant.
use Rattle.std.proofs.lemmas.Result.{err_from_is_err_and}
use Rattle.entries.proofs.Valid.{name_length}
use Rattle.lookup_name_calls.proofs.Naming.{allowed, name_refused, not_held, of_name}
use Rattle.lookup_name_calls.proofs.name_of.Goals as goal

pub returns-in_err-found : goal.returns-in_err-found
returns-in_err-found c =
    let p = err_from_is_err_and c.from_residual.result c.from_residual.ensures.1 in
    rw (p.1, p.2) (name_refused _ _ _ c.in_err-found.ensures)

pub returns-in_default : goal.returns-in_default
returns-in_default c = not_held _ _ _ c.in_ok-found.ensures _ c.in_default.is

pub write_entry-requires : goal.write_entry-requires
write_entry-requires c =
    let a = c.args in name_length _ (allowed a.book.now a.name.now c.in_ok-found.field-0 c.in_ok-found.ensures)

pub shape_of-dst : goal.shape_of-dst
shape_of-dst c = c.write_entry.auto.dst

pub returns : goal.returns
returns c = of_name _ _ _ c.in_ok-found.ensures _ c.in-Some.is c.write_entry.ensures

-- `convert_write::pass_anew` meets its contract: the record is read, and its entry put behind the name before, which
-- was kept aside (proofs/Passing). No loop.
use Prim.Native.Nat.{◌+◌, ◌≤◌}
use mathlib.Core.Path.{◌∙◌, ◌≡◌, sym}
use lib.ListN.{length, take}
use lib.Seq.{length-take-le}
use native.Mathlib.Omega.{arith}
use borrow.Author.Rules.{rules}
use Rattle.entries.specs.Names.{longest_name}
use Rattle.book_laws.proofs.Held.{held_few}
use Rattle.convert_write.proofs.Passing.{anew_fits, anew_passed, name_before_lem, read_ahead}
use Rattle.convert_write.proofs.Passing.{ready_inside, ready_name}
use Rattle.convert_write.proofs.pass_anew.Goals as goal
use Rattle.convert_write.proofs.pass_anew.Goals.{After-copy, After-read_name-p}

-- the record that was read: its name, and where it ends
name_small : (c : After-read_name-p) → c.read_name-p.result.kept + c.read_name-p.result.own ≤ longest_name
name_small c = (read_ahead c.requires c.read_name-p.ensures).small

record_inside :
    (c : After-read_name-p)
    → c.args.src.at + (c.read_name-p.result.start + c.read_name-p.result.own) ≤ length c.args.book.now
record_inside c = (read_ahead c.requires c.read_name-p.ensures).inside

name_fits :
    (c : After-read_name-p) → c.read_name-p.result.kept + c.read_name-p.result.own ≤ length c.read_name-p.new.name
name_fits c = let small = name_small c in omega (arith, small, c.read_name-p.auto.name, c.requires.long)

-- the name before, kept aside
prev_fits : (c : After-copy) → c.args.src.len ≤ length c.copy.new.dst
prev_fits c =
    let long : length c.copy.new.dst ≡ longest_name = c.copy.auto.dst ∙ search rules in
    omega (arith, long, c.requires.ahead.small)

name_kept : (c : After-copy) → take c.args.src.len c.copy.new.dst ≡ take c.args.src.len c.args.name.now
name_kept c = name_before_lem c.requires _ (search rules) c.copy.ensures

pub slice_bounds-copy-end-2 : goal.slice_bounds-copy-end-2
slice_bounds-copy-end-2 c = ready_name c.requires

pub slice_bounds-copy-end-3 : goal.slice_bounds-copy-end-3
slice_bounds-copy-end-3 c =
    sym (length-take-le c.args.src.len c.args.name.now (ready_name c.requires))

pub read_name-p-requires : goal.read_name-p-requires
read_name-p-requires c = ready_inside c.requires

pub overflow_add-len : goal.overflow_add-len
overflow_add-len c =
    let small = name_small (goal.at.overflow_add-len c).After-read_name-p in
    omega (arith, small)

pub score_at-score-requires : goal.score_at-score-requires
score_at-score-requires c = let v = c.requires in omega (arith, v.low, held_few v.held)

pub slice_bounds-prev-end : goal.slice_bounds-prev-end
slice_bounds-prev-end c =
    let fits = prev_fits (goal.at.slice_bounds-prev-end c).After-copy in
    fits

pub slice_bounds-pass_entry-end : goal.slice_bounds-pass_entry-end
slice_bounds-pass_entry-end c =
    let fits = prev_fits (goal.at.slice_bounds-pass_entry-end c).After-copy in
    sym (length-take-le c.args.src.len c.copy.new.dst fits)

pub slice_bounds-pass_entry-end-2 : goal.slice_bounds-pass_entry-end-2
slice_bounds-pass_entry-end-2 c =
    let name_long = name_fits (goal.at.slice_bounds-pass_entry-end-2 c).After-read_name-p in
    name_long

pub slice_bounds-pass_entry-end-3 : goal.slice_bounds-pass_entry-end-3
slice_bounds-pass_entry-end-3 c =
    let name_long = name_fits (goal.at.slice_bounds-pass_entry-end-3 c).After-read_name-p in
    sym (length-take-le (c.read_name-p.result.kept + c.read_name-p.result.own) c.read_name-p.new.name
    name_long)

pub pass_entry-at-requires : goal.pass_entry-at-requires
pass_entry-at-requires c =
    let kept = name_kept (goal.at.pass_entry-at-requires c).After-copy in
    anew_fits c.requires c.read_name-p.ensures kept c.score_at-score.ensures

pub overflow_add-result : goal.overflow_add-result
overflow_add-result c =
    let inside = record_inside (goal.at.overflow_add-result c).After-read_name-p in
    omega (arith, inside, c.well_formed.0)

pub overflow_add-result-2 : goal.overflow_add-result-2
overflow_add-result-2 c =
    let inside = record_inside (goal.at.overflow_add-result-2 c).After-read_name-p in
    omega (arith, inside, c.well_formed.0)

pub returns : goal.returns
returns c =
    let kept = name_kept (goal.at.returns c).After-copy in
    anew_passed c.requires c.read_name-p.ensures kept c.score_at-score.ensures c.pass_entry-at.ensures

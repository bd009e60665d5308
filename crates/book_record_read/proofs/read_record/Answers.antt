-- `book_record_read::read_record` meets its contract: what `part_at` and `copy` tell is what a step of the cursor asks
-- (proofs/Steps). No loop, so no invariant.
use mathlib.Core.Path.{◌∙◌, ◌≡◌, sym}
use lib.ListN.{drop, length-drop, take}
use lib.Seq.{length-take-le}
use native.Mathlib.Omega.{arith}
use Rattle.std.specs.Prelude.{Some}
use Rattle.octets.proofs.Stores.{part_bytes, to_end}
use Rattle.book_laws.specs.Cursor.{cursor_of}
use Rattle.book_record_read.specs.RecordParts.{record_part}
use Rattle.book_record_read.proofs.RecordParts.{Owned, part_own}
use Rattle.book_record_read.proofs.Steps.{own_keeps, step_bad, step_own}
use Rattle.book_record_read.proofs.read_record.Goals as goal
use Rattle.book_record_read.proofs.read_record.Goals.{In_ok-p}

-- the record's parts, and what they say of it
told :
    (c : In_ok-p)
    → record_part c.args.heads c.args.index (take c.args.len c.args.name.now) (drop c.args.at c.args.src.now)
    ≡ Some c.in_ok-p.p
told c = rw (to_end c.args.src.now c.args.at) at (sym c.part_at.ensures ∙ c.in_ok-p.was)

owned :
    (c : In_ok-p)
    → let p = c.in_ok-p.p in
    Owned c.args.heads c.args.index (take c.args.len c.args.name.now) (drop c.args.at c.args.src.now) p.kept p.start p.own
owned c = part_own _ _ _ _ _ c.requires.0.allowed (told c)

pub slice_bounds-part_at-end-2 : goal.slice_bounds-part_at-end-2
slice_bounds-part_at-end-2 c =
    sym (length-take-le c.args.len c.args.name.now (omega (arith, c.requires.1, c.requires.0.small)))

pub returns-in_err-p : goal.returns-in_err-p
returns-in_err-p c =
    let here = cursor_of c.args.at c.args.index c.args.name.now c.args.len in
    let bad = rw (to_end c.args.src.now c.args.at) at (sym c.part_at.ensures ∙ c.in_err-p.was) in
    rw c.from_residual.ensures (step_bad c.args.heads c.args.src.now here c.requires.0 bad, tt)

pub overflow_add-end : goal.overflow_add-end
overflow_add-end c =
    let o = owned (goal.at.overflow_add-end c).In_ok-p in
    omega (arith, o.inside, length-drop c.args.at c.args.src.now, c.requires.0.inside)

pub slice_bounds-copy-end : goal.slice_bounds-copy-end
slice_bounds-copy-end c =
    rw (to_end c.args.src.now c.args.at) (owned (goal.at.slice_bounds-copy-end c).In_ok-p).inside

pub returns : goal.returns
returns c =
    let p = c.in_ok-p.p in
    let here = cursor_of c.args.at c.args.index c.args.name.now c.args.len in
    let e = told (goal.at.returns c).In_ok-p in
    let m = rw (to_end c.args.src.now c.args.at, part_bytes (drop c.args.at c.args.src.now) p.start p.own)
    at c.copy.ensures in (
      step_own c.args.heads c.args.src.now here c.requires.0 c.requires.1 p c.copy.new.dst e m,
      own_keeps c.args.heads c.args.src.now here c.requires.0 c.requires.1 p c.copy.new.dst e m,
    )

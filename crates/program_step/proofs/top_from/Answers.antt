-- `program_step::top_from` meets its contract: the local array holds the answer for any count that is allowed, so 7
-- does not apply. No loop, so no invariant.
use Prim.Native.Nat.{ℕ}
use mathlib.Core.Path.{◌≡◌}
use mathlib.Core.List.{List}
use lib.ListN.{length, length-replicate, replicate}
use Rattle.program_step.specs.Step.{answer_room}
use Rattle.program_step.proofs.Completing.{top-shown}
use Rattle.program_step.proofs.top_from.Goals as goal

-- the local array
abbrev array : List ℕ
array = replicate answer_room 0

long : length array ≡ answer_room
long = length-replicate {A = ℕ} answer_room 0

pub print_top-requires : goal.print_top-requires
print_top-requires c = (
  (top-shown c.args.book.now c.args.prefix.now array c.args.k long c.complete_in-c.ensures).0,
  c.requires,
)

pub returns : goal.returns
returns c =
    let t = (top-shown c.args.book.now c.args.prefix.now array c.args.k long c.complete_in-c.ensures).1 in
    rw t at c.print_top.ensures

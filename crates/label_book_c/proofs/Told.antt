-- What a front-door call answered is what C is told of it.
use Prim.Native.Nat.{ℕ}
use mathlib.Core.Path.{◌≡◌, refl}
use mathlib.Core.List.{List}
use Rattle.answer.specs.Answers.{OfferedCounts, Outcome, WrittenCounts}
use Rattle.completion.specs.Complete.{Completed, CompletedOver}
use Rattle.std.proofs.Common.{Result}
use Rattle.answer.specs.Reports.{Answered, count_of, offered_of, played_of, written_of}
use Rattle.answer.specs.declared.Offered.{Offered}
use Rattle.completion.specs.declared.Range.{Range}
use Rattle.panel.specs.Panel.{AfterKey, PressedAs}
use Rattle.panel.specs.declared.Panel.{Panel}
use Rattle.answer.specs.declared.Played.{Played}
use Rattle.answer.specs.declared.Refusal.{Refusal}
use Rattle.answer.specs.declared.Size.{Size}
use Rattle.script.specs.Run.{Finish, finish_of}
use Rattle.abi.specs.Told.{OfferedTold, PlayedTold, RowsTold, WrittenTold}
use Rattle.abi.specs.Left.{Left, OfferedLeft, OfferedOver, PanelLeft, RunLeft}

-- every call that writes
pub left :
    {o : Outcome WrittenCounts} {w : Result Size Refusal} {dst : List ℕ} {r e b : ℕ}
    → Answered o w dst → WrittenTold (written_of w) r e b → Left o r e b dst
left a t = record { told = rw (← a.answer) t; dest = a.left }

-- every completion
pub offered_left :
    {o : Outcome OfferedCounts} {w : Result Offered Refusal} {dst : List ℕ} {r n b l : ℕ}
    → Completed o w dst → OfferedTold (offered_of w) r n b l → OfferedLeft o r n b l dst
offered_left a t = record { told = rw (← a.answer) t; dest = a.left }

pub offered_over :
    {o : Outcome OfferedCounts} {w : Result Offered Refusal} {dst : List ℕ} {xs ys : List Range} {r n b l : ℕ}
    → CompletedOver o w dst xs ys → OfferedTold (offered_of w) r n b l → OfferedOver o r n b l dst xs ys
offered_over a t = record { left = offered_left a.completed t; lent = a.lent }

-- a key
pub rows_left :
    {o : AfterKey} {w : Result ℕ Refusal} {p : Panel} {r k : ℕ}
    → PressedAs o w p → RowsTold (count_of w) r k → PanelLeft o r k p
rows_left a t = record { told = rw (← a.answer) t; leaves = a.leaves }

-- the run of a history
pub run_left :
    {f : Finish} (w : Result Played Refusal) {a b out : List ℕ} {r n t : ℕ}
    → finish_of w a b out ≡ f → PlayedTold (played_of w) r n t → RunLeft f r n t a b out
run_left w e t = rw (← e) (record { told = t; leaves = (refl, refl, refl) })

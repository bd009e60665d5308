-- What one call of a history asks and ensures, and the three numbers of its answer.
use Rattle.std.specs.Prelude.{◌≤◌, ℕ, ◌≡◌, Result, List}
use Rattle.answer.specs.Answers.{Answer, WrittenCounts, counts, none_written, number}
use Rattle.ledger.specs.History.{Buffers, call}
use Rattle.ledger.specs.Ledger.{Edit, set_name, withdraw_name}
use Rattle.answer.specs.Reports.{Answered, written_of}
use Rattle.script.specs.Run.{Bench, bench_call, bench_step}
use Rattle.answer.specs.declared.Refusal.{Refusal}
use Rattle.answer.specs.declared.Size.{Size}
use Rattle.script_step.specs.declared.Edit.TheVariants as edit
use Rattle.script_step.specs.declared.Edit as step
use Rattle.script_step.specs.declared.AnswerNumbers.{AnswerNumbers}

-- the counts of an answer fit in their bytes
pub record Small (a : Answer WrittenCounts) : Type 0 where
  pub entries : (counts none_written a).entries ≤ 1024
  pub bytes : (counts none_written a).bytes ≤ 55559

-- the three numbers of an answer
pub record Tells (a : Answer WrittenCounts) (t : AnswerNumbers) : Type 0 where
  pub code : t.number ≡ number a
  pub entries : t.entries ≡ (counts none_written a).entries
  pub bytes : t.bytes ≡ (counts none_written a).bytes

-- the call that sets the name w, or withdraws it
abbrev pub edit_of : step.Edit → List ℕ → Edit
edit_of (edit.Set s) w = set_name w s
edit_of edit.Withdraw w = withdraw_name w

-- a call on two buffers answered r and left its destination so
pub record Called (c : Edit) (b : Buffers) (r : Result Size Refusal) (left : List ℕ) : Type 0 where
  pub answered : Answered (call c b) r left
  pub small : Small (written_of r)

-- a call on the bench b answered r and left these buffers
pub record Performed (c : Edit) (b : Bench) (r : Result Size Refusal) (one two : List ℕ) : Type 0 where
  pub answer : written_of r ≡ (bench_call c b).answer
  pub first : one ≡ (bench_step c b).first
  pub second : two ≡ (bench_step c b).second
  pub small : Small (written_of r)

-- A history run on two lent buffers (document 01, "The ledger"): "empty" into the first, then every call of a script,
-- its answers kept.
use Rattle.std.specs.Prelude.{◌*◌, ℕ, Bool, ◌||◌, false, not, Result, List, [], ◌∷◌, eqb, ltb, length}
use Rattle.octets.specs.Lists.{concat_map, if◌then◌otherwise◌}
use Rattle.octets.specs.Octets.{overwrite}
use Rattle.answer.specs.Answers.{Answer, Check, Outcome, PlayedCounts, WrittenCounts, ◌when◌, on_answer, unless}
use Rattle.answer.specs.Reports.{played_of}
use Rattle.answer.specs.declared.Played.{Played}
use Rattle.answer.specs.declared.Refusal.{Refusal}
use Rattle.edit.specs.Edits.{empty_book}
use Rattle.ledger.specs.History.{Buffers, call}
use Rattle.ledger.specs.Ledger.{Edit}
use Rattle.script.specs.Script.{answer_bytes, calls, calls_of, is_laid}

-- the two buffers; `turned` says that the book is in the second
pub record Bench : Type 0 where
  pub first : List ℕ
  pub second : List ℕ
  pub turned : Bool

abbrev pub bench : List ℕ → List ℕ → Bool → Bench
bench a b t = record { first = a; second = b; turned = t }

abbrev pub buffers : List ℕ → List ℕ → Buffers
buffers book other = record { book = book; other = other }

-- the buffer that holds the book, and the other
abbrev pub book_of : Bench → List ℕ
book_of b = if b.turned then b.second otherwise b.first

abbrev pub buffers_of : Bench → Buffers
buffers_of b = buffers (book_of b) (if b.turned then b.first otherwise b.second)

-- what a call answers and leaves in the other buffer
abbrev pub bench_call : Edit → Bench → Outcome WrittenCounts
bench_call c b = call c (buffers_of b)

-- the other buffer is the destination, and holds the book after an accepted call; a refused one leaves it as it was
unfoldable pub bench_step : Edit → Bench → Bench
bench_step c b =
    record {
      first = if b.turned then (bench_call c b).dest otherwise b.first;
      second = if b.turned then b.second otherwise (bench_call c b).dest;
      turned = on_answer (bench_call c b).answer b.turned (not b.turned);
    }

-- after a list of calls: the bench, and the answers in order
abbrev pub bench_after : List Edit → Bench → Bench
bench_after [] b = b
bench_after (c ∷ cs) b = bench_after cs (bench_step c b)

abbrev pub bench_answers : List Edit → Bench → List (Answer WrittenCounts)
bench_answers [] b = []
bench_answers (c ∷ cs) b = (bench_call c b).answer ∷ bench_answers cs (bench_step c b)

-- the bytes of the answers
abbrev pub told : List Edit → Bench → List ℕ
told cs b = concat_map answer_bytes (bench_answers cs b)

-- the start: "empty" wrote into the first buffer
abbrev pub start_bench : List ℕ → List ℕ → Bench
start_bench a b = bench (empty_book a).dest b false

-- what a run answers, and every lent byte afterwards
pub record Finish : Type 0 where
  pub answer : Answer PlayedCounts
  pub first : List ℕ
  pub second : List ℕ
  pub out : List ℕ

-- 7: no room for a book in the first buffer, buffers of two lengths, or no room for the answers
abbrev pub too_small : List Edit → List ℕ → List ℕ → List ℕ → Bool
too_small cs a b out = ltb (length a) 7 || (not (eqb (length b) (length a)) || ltb (length out) (7 * length cs))

abbrev pub run_checks : List ℕ → List ℕ → List ℕ → List ℕ → List Check
run_checks script a b out = 1 when not (is_laid (calls script)) ∷ 7 when too_small (calls_of (calls script)) a b out ∷ []

-- The whole run. A refusal changes no lent byte.
unfoldable pub run_of : List ℕ → List ℕ → List ℕ → List ℕ → Finish
run_of script a b out =
    let cs = calls_of (calls script) in
    let end = bench_after cs (start_bench a b) in
    let counts : PlayedCounts = record { calls = length cs; turned = end.turned } in
    let o = unless (run_checks script a b out) counts in
    record {
      answer = o;
      first = on_answer o a end.first;
      second = on_answer o b end.second;
      out = on_answer o out (overwrite out (told cs (start_bench a b)));
    }

-- the call that runs it returned r and left these bytes
abbrev pub finish_of : Result Played Refusal → List ℕ → List ℕ → List ℕ → Finish
finish_of r a b out = record { answer = played_of r; first = a; second = b; out = out }

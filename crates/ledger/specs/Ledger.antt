-- The ledger (document 01, "The ledger"): what a history of calls is to answer and to leave, by entries alone.
use Rattle.std.specs.Prelude.{ℕ, Bool, true, List, [], ◌++◌, ◌∷◌, ltb, length}
use Rattle.entries.specs.Entries.{Entry, entry, with, without}
use Rattle.entries.specs.Names.{is_score}
use Rattle.answer.specs.Answers.{Answer, Check, WrittenCounts, ◌when◌, on_answer, unless}
use Rattle.book.specs.Book.{book_image, reported}
use Rattle.edit.specs.Edits.{set_refusals, withdraw_refusals}

-- One call of a history with its arguments other than the buffers: a set of a name and a score, or a withdraw of a
-- name.
pub data Edit : Type 0 where
  set_name : List ℕ → ℕ → Edit
  withdraw_name : List ℕ → Edit

-- a score is a number of 4 bytes
abbrev pub score_fits : Edit → Bool
score_fits (set_name w s) = is_score s
score_fits (withdraw_name w) = true

-- the entries that the call would leave
abbrev pub result : Edit → List Entry → List Entry
result (set_name w s) es = with (entry w s) es
result (withdraw_name w) es = without w es

-- its refusals: 2, 4 and 5, and 7 where the result's book image is longer than L
abbrev pub refusals : Edit → List Entry → List Check
refusals (set_name w s) es = set_refusals w es
refusals (withdraw_name w) es = withdraw_refusals w es

abbrev pub ledger_checks : ℕ → Edit → List Entry → List Check
ledger_checks L c es = refusals c es ++ (7 when ltb L (length (book_image (result c es))) ∷ [])

-- the answer: the refusal, or how many entries there are and the length of their image
unfoldable pub ledger_answer : ℕ → Edit → List Entry → Answer WrittenCounts
ledger_answer L c es = unless (ledger_checks L c es) (reported (result c es))

-- the entries held afterwards
unfoldable pub ledger_step : ℕ → Edit → List Entry → List Entry
ledger_step L c es = on_answer (ledger_answer L c es) es (result c es)

-- after a list of calls: the entries held, and the answers in order
abbrev pub held : ℕ → List Edit → List Entry → List Entry
held L [] es = es
held L (c ∷ cs) es = held L cs (ledger_step L c es)

abbrev pub ledger_answers : ℕ → List Edit → List Entry → List (Answer WrittenCounts)
ledger_answers L [] es = []
ledger_answers L (c ∷ cs) es = ledger_answer L c es ∷ ledger_answers L cs (ledger_step L c es)

-- A history on two buffers (document 01, "The ledger"): each call reads the book that the calls before it left and has
-- the other buffer as its destination.
use Rattle.std.specs.Prelude.{ℕ, List, [], ◌∷◌}
use Rattle.answer.specs.Answers.{Answer, Outcome, WrittenCounts, on_answer}
use Rattle.edit.specs.Edits.{empty_book, set_entry, withdraw_entry}
use Rattle.ledger.specs.Ledger.{Edit, set_name, withdraw_name}

-- the buffer that the last accepted call wrote, "empty" included, and the other
pub record Buffers : Type 0 where
  pub book : List ℕ
  pub other : List ℕ

abbrev pub call : Edit → Buffers → Outcome WrittenCounts
call (set_name w s) b = set_entry b.book w s b.other
call (withdraw_name w) b = withdraw_entry b.book w b.other

-- an accepted call's destination holds the book from then on; after a refusal the roles stay
unfoldable pub call_step : Edit → Buffers → Buffers
call_step c b =
    on_answer (call c b).answer
    (record { book = b.book; other = (call c b).dest })
    (record { book = (call c b).dest; other = b.book })

-- after a list of calls: the buffers, and the answers in order
abbrev pub buffers_after : List Edit → Buffers → Buffers
buffers_after [] b = b
buffers_after (c ∷ cs) b = buffers_after cs (call_step c b)

abbrev pub answers : List Edit → Buffers → List (Answer WrittenCounts)
answers [] b = []
answers (c ∷ cs) b = (call c b).answer ∷ answers cs (call_step c b)

-- the start: "empty" wrote into the first buffer
abbrev pub started : List ℕ → List ℕ → Buffers
started a b = record { book = (empty_book a).dest; other = b }

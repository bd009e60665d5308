-- A run that is not refused is the ledger's history (document 01, "The ledger").
use Rattle.std.specs.Prelude.{◌<◌, ℕ, ◌≡◌, List, [], get_or, length, take}
use Rattle.octets.specs.Lists.{concat_map, if◌then◌otherwise◌}
use Rattle.octets.specs.Octets.{overwrite}
use Rattle.answer.specs.Answers.{PlayedCounts, given, refused}
use Rattle.book.specs.Book.{book_image}
use Rattle.ledger.specs.Demand.{OffersBest}
use Rattle.ledger.specs.Ledger.{Edit, held, ledger_answers}
use Rattle.script.specs.Run.{Bench, Finish, bench_call, bench_step, run_of}
use Rattle.script.specs.Script.{answer_bytes, calls, calls_of}

-- the buffer that a run says to hold the book
abbrev pub book_left : PlayedCounts → Finish → List ℕ
book_left p f = if p.turned then f.second otherwise f.first

-- For buffers of L bytes and the calls cs:
pub record Ledgers (L : ℕ) (cs : List Edit) (out : List ℕ) (p : PlayedCounts) (f : Finish) : Type 0 where
  -- every call was made
  pub made : p.calls ≡ length cs
  -- the answers written are the ledger's, and what is behind them stays
  pub answered : f.out ≡ overwrite out (concat_map answer_bytes (ledger_answers L cs []))
  -- the image of the entries that the ledger holds stands at the front of the buffer that is said to hold the book
  pub stands : take (length (book_image (held L cs []))) (book_left p f) ≡ book_image (held L cs [])
  -- what that book offers, and the trie written from it, is the best list
  pub offers_best : OffersBest (held L cs []) (book_left p f)

-- a refused call changes neither buffer, nor their roles
abbrev pub RefusedStays : Type 0
RefusedStays = (c : Edit) (b : Bench) (n : ℕ) → (bench_call c b).answer ≡ refused n → bench_step c b ≡ b

-- every script of bytes, every two buffers and every answers slice that the run does not refuse
abbrev pub RunLedgers : Type 0
RunLedgers =
    (script a b out : List ℕ) (p : PlayedCounts) → ((i : ℕ) → get_or script i 0 < 256)
    → (run_of script a b out).answer ≡ given p
    → Ledgers (length a) (calls_of (calls script)) out p (run_of script a b out)

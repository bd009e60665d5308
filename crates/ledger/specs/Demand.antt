-- Demand 3, one claim about a whole history.
use Rattle.std.specs.Prelude.{◌*◌, ◌≤◌, ℕ, ◌≡◌, true, List, [], length, take}
use Rattle.octets.specs.Lists.{all}
use Rattle.octets.specs.Octets.{overwrite}
use Rattle.entries.specs.Completion.{BestList, completion, max_count}
use Rattle.entries.specs.Entries.{Entry}
use Rattle.entries.specs.Names.{is_prefix}
use Rattle.answer.specs.Answers.{OfferedCounts, Outcome, WrittenCounts, entries_bytes, given, refused}
use Rattle.book.specs.Book.{book_image}
use Rattle.edit.specs.Edits.{empty_book}
use Rattle.completion.specs.Complete.{complete_book, entry_room, offered_as}
use Rattle.completion.specs.Machine.{machine}
use Rattle.trie.specs.Calls.{complete_trie, write_trie}
use Rattle.trie.specs.Trie.{trie_image}
use Rattle.ledger.specs.History.{answers, buffers_after, call, call_step, started}
use Rattle.ledger.specs.Ledger.{Edit, held, ledger_answers, score_fits}

-- What completion is to answer and to write for the entries es.
abbrev pub offers_of : List Entry → List ℕ → ℕ → ℕ → List ℕ → Outcome OfferedCounts
offers_of es p k looks dst =
    let l = completion es p k in
    record { answer = given (offered_as l looks); dest = overwrite dst (entries_bytes l) }

-- What a buffer with the book of the entries es at its front offers: the best list.
pub record OffersBest (es : List Entry) (book : List ℕ) : Type 0 where
  -- the list that this book offers, with long enough buffers
  pub offers :
      (p : List ℕ) (k : ℕ) (dst : List ℕ) (ranges : ℕ)
      → is_prefix p ≡ true → 1 ≤ k → k ≤ max_count → entry_room * k ≤ length dst → k ≤ ranges
      → complete_book book p k dst ranges ≡ offers_of es p k (machine es p k).looks dst
  -- the list that the trie written from it offers, with long enough buffers
  pub trie_offers :
      (p : List ℕ) (k : ℕ) (dst space : List ℕ)
      → is_prefix p ≡ true → 1 ≤ k → k ≤ max_count → entry_room * k ≤ length dst → length (trie_image es) ≤ length space
      → complete_trie (write_trie book space).dest p k dst ≡ offers_of es p k 0 dst
  -- and that list is the best one
  pub best_list : (p : List ℕ) (k : ℕ) → is_prefix p ≡ true → BestList es p k (completion es p k)

-- For buffers a and b of L bytes, into the first of which "empty" was accepted, and the history h:
pub record Demand3 (L : ℕ) (a b : List ℕ) (h : List Edit) : Type 0 where
  -- every answer is the ledger's
  pub answered : answers h (started a b) ≡ ledger_answers L h []
  -- the image of the entries held stands at the front of the buffer that the last accepted call wrote
  pub stands :
      take (length (book_image (held L h []))) (buffers_after h (started a b)).book ≡ book_image (held L h [])
  -- a further call that is refused changes neither buffer
  pub unchanged :
      (c : Edit) (n : ℕ) → (call c (buffers_after h (started a b))).answer ≡ refused n
      → call_step c (buffers_after h (started a b)) ≡ buffers_after h (started a b)
  -- the list that this book offers, and the one that the trie written from it offers, is the best one
  pub offers_best : OffersBest (held L h []) (buffers_after h (started a b)).book

abbrev pub Demand3All : Type 0
Demand3All =
    (L : ℕ) (a b : List ℕ) (h : List Edit) → length a ≡ L → length b ≡ L
    → (x : WrittenCounts) → (empty_book a).answer ≡ given x → all score_fits h ≡ true → Demand3 L a b h

-- Demand 3, whole.
use Prim.Native.Nat.{◌*◌, ◌≤◌, ℕ}
use mathlib.Core.Path.{◌≡◌, ap}
use mathlib.Core.Bool.{true}
use mathlib.Core.List.{List, []}
use mathlib.Core.Option.{some}
use lib.Dec.{ltb}
use lib.ListN.{drop, length}
use lib.Seq.{take-append_seam}
use native.Mathlib.Omega.{arith}
use borrow.Author.Tests.{le-ltb, ltb-false, ltb-true, ne_eqb}
use Rattle.octets.proofs.Tests.{by_test}
use Rattle.entries.specs.Completion.{max_count}
use Rattle.entries.specs.Entries.{Entry, at, valid}
use Rattle.entries.specs.Names.{is_prefix}
use Rattle.entries.proofs.BestList.{best_list_lem}
use Rattle.entries.proofs.Valid.{valid_of}
use Rattle.answer.specs.Answers.{WrittenCounts, given, writing, writing_image}
use Rattle.book.specs.Book.{book_image, read_book}
use Rattle.book.proofs.Checks.{read_not_old}
use Rattle.frame.specs.Frame.{is_read}
use Rattle.frame.proofs.Frame.{read_of}
use Rattle.edit.specs.Edits.{empty_book}
use Rattle.edit.proofs.Empty.{empty_refused}
use Rattle.completion.specs.Complete.{complete_book, complete_from, entry_room}
use Rattle.completion.specs.Machine.{machine}
use Rattle.trie.specs.Calls.{complete_trie, complete_trie_within, write_trie}
use Rattle.trie.specs.Reading.{read_trie}
use Rattle.trie.specs.Trie.{trie_image}
use Rattle.trie.proofs.Trie.{trie_exact}
use Rattle.ledger.specs.Demand.{Demand3All, OffersBest, offers_of}
use Rattle.ledger.specs.History.{buffers_after, started}
use Rattle.ledger.specs.Ledger.{held}
use Rattle.ledger.proofs.History.{history-answers, history-holds, reads, refused_unchanged, start_holds}

-- completion from a buffer that is read as es, with long enough buffers
completes :
    (book : List ℕ) (es : List Entry) → read_book book ≡ some es → (p : List ℕ) (k : ℕ) (dst : List ℕ) (ranges : ℕ)
    → is_prefix p ≡ true → 1 ≤ k → k ≤ max_count → entry_room * k ≤ length dst → k ≤ ranges
    → complete_book book p k dst ranges ≡ offers_of es p k (machine es p k).looks dst
unfolding complete_from writing
completes book es r p k dst ranges hp lo hi long enough =
    rw (
      read_not_old book (ap is_read r),
      r,
      hp,
      ne_eqb k 0 (λ z. omega arith),
      le-ltb max_count k hi,
      le-ltb (length dst) (entry_room * k) long,
      le-ltb ranges k enough,
    )

-- completion from a buffer that is read as the trie of es
pub trie_completes :
    (trie : List ℕ) (es : List Entry) → read_trie trie ≡ some es → (p : List ℕ) (k : ℕ) (dst : List ℕ)
    → is_prefix p ≡ true → 1 ≤ k → k ≤ max_count → entry_room * k ≤ length dst
    → complete_trie trie p k dst ≡ offers_of es p k 0 dst
unfolding complete_trie_within writing
trie_completes trie es r p k dst hp lo hi long =
    rw (r, hp, ne_eqb k 0 (λ z. omega arith), le-ltb max_count k hi, le-ltb (length dst) (entry_room * k) long)

-- the trie written from it is read as es
trie_reads :
    (book : List ℕ) (es : List Entry) (space : List ℕ) → read_book book ≡ some es → valid es ≡ true
    → length (trie_image es) ≤ length space → read_trie (write_trie book space).dest ≡ some es
unfolding write_trie writing_image writing
trie_reads book es space r ok room =
    rw (read_not_old book (ap is_read r), r, le-ltb (length space) (length (trie_image es)) room)
    (read_of read_trie trie_image trie_exact es (drop (length (trie_image es)) space) ok)

-- a buffer that is read as es offers the best list of es
pub offers_best_lem : (es : List Entry) (book : List ℕ) → read_book book ≡ some es → valid es ≡ true → OffersBest es book
offers_best_lem es book r ok =
    record {
      offers = completes book es r;
      trie_offers = λ p k dst space hp lo hi long room.
          trie_completes (write_trie book space).dest es (trie_reads book es space r ok room) p k dst hp lo hi long;
      best_list = λ p k hp. best_list_lem es p k (valid_of es ok).order;
    }

-- "empty" was accepted only where it fits
pub empty_fits : (a : List ℕ) (x : WrittenCounts) → (empty_book a).answer ≡ given x → 7 ≤ length a
empty_fits a x h =
    by_test (ltb (length a) 7)
    (λ t.
    let e = ap (λ o. o.answer) (empty_refused a (ltb-true (length a) 7 t)) in
    let z : ◌≡◌ {A = ℕ} 0 1 = cc in
    omega arith)
    (λ t. ltb-false (length a) 7 t)

pub demand3 : Demand3All
demand3 L a b h p q x y f =
    let l : 7 ≤ L = rw p at (empty_fits a x y) in
    let s = start_holds L a b p q l in
    let k = history-holds L h [] (started a b) s f in
    let es = held L h [] in
    let book = (buffers_after h (started a b)).book in
    record {
      answered = history-answers L h [] (started a b) s f;
      stands = rw k.front (take-append_seam (book_image es) k.rest);
      unchanged = λ c n e. refused_unchanged c (buffers_after h (started a b)) n e;
      offers_best = offers_best_lem es book (reads L es (buffers_after h (started a b)) k) k.ok;
    }

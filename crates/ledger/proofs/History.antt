-- A history on two buffers goes as the ledger says.
use Prim.Native.Nat.{◌≤◌, ℕ}
use mathlib.Core.Path.{◌∙◌, ◌≡◌, ap, refl}
use mathlib.Core.Logic.{inl, inr}
use mathlib.Core.Bool.{true}
use mathlib.Core.List.{List, [], ◌++◌, ◌∷◌}
use mathlib.Core.Option.{some}
use lib.ListN.{drop, length}
use native.Mathlib.Omega.{arith}
use borrow.Author.Tests.{ltb-false, not-false}
use Rattle.octets.specs.Lists.{all}
use Rattle.octets.specs.Octets.{overwrite}
use Rattle.octets.proofs.Coding.{overwrite-length}
use Rattle.octets.proofs.Tests.{and_true_both, other}
use Rattle.entries.specs.Entries.{Entry, entry, valid, with, without}
use Rattle.entries.specs.Names.{is_name}
use Rattle.entries.proofs.Edits.{valid-with, valid-without}
use Rattle.answer.specs.Answers.{Answer, WrittenCounts, given, on_answer, refused, writing, writing_image}
use Rattle.book.specs.Book.{book_image, in_book, is_book, read_book, reported}
use Rattle.book.specs.Checks.{book_checks}
use Rattle.frame.specs.Frame.{is_read}
use Rattle.answer.proofs.Answers.{clear}
use Rattle.book.proofs.Checks.{read_not_old}
use Rattle.book.proofs.Reading.{read_book_of}
use Rattle.edit.specs.Edits.{set_entry, withdraw_entry}
use Rattle.edit.proofs.Empty.{empty_given, empty_length, empty_valid}
use Rattle.ledger.specs.History.{Buffers, answers, buffers_after, call, call_step, started}
use Rattle.ledger.specs.Ledger.{Edit, held, ledger_answer, ledger_answers, ledger_checks, ledger_step}
use Rattle.ledger.specs.Ledger.{refusals, result, score_fits, set_name, withdraw_name}

-- buffers of L bytes of which the first holds the book of the entries es
pub record Holds (L : ℕ) (es : List Entry) (b : Buffers) : Type 0 where
  pub ok : valid es ≡ true
  pub rest : List ℕ
  pub front : b.book ≡ book_image es ++ rest
  pub size : length b.book ≡ L
  pub other_size : length b.other ≡ L

pub reads : (L : ℕ) (es : List Entry) (b : Buffers) → Holds L es b → read_book b.book ≡ some es
reads L es b h = rw h.front (read_book_of es h.rest h.ok)

pub is_book_lem : (L : ℕ) (es : List Entry) (b : Buffers) → Holds L es b → is_book b.book ≡ true
is_book_lem L es b h = ap is_read (reads L es b h)

-- what every call is: the checks of the book, its own refusals, and the image of its result
pub call_is :
    (c : Edit) (b : Buffers)
    → call c b
    ≡ writing_image (book_checks (b.book ∷ []) ++ refusals c (in_book b.book)) (result c (in_book b.book))
    (book_image (result c (in_book b.book))) b.other
unfolding set_entry withdraw_entry
call_is (set_name w s) b = refl
call_is (withdraw_name w) b = refl

-- a call answers and writes as the ledger says
call_as :
    (L : ℕ) (c : Edit) (es : List Entry) (b : Buffers) → Holds L es b
    → call c b
    ≡ record {
      answer = ledger_answer L c es;
      dest = on_answer (ledger_answer L c es) b.other (overwrite b.other (book_image (result c es)));
    }
unfolding writing_image writing ledger_answer
call_as L c es b h = rw (call_is c b, read_not_old b.book (is_book_lem L es b h), reads L es b h, h.other_size)

-- an accepted edit: its result is a valid list, and its image fits
accepted :
    (L : ℕ) (c : Edit) (es : List Entry) (x : WrittenCounts) → valid es ≡ true → score_fits c ≡ true
    → ledger_answer L c es ≡ given x
    → (valid (result c es) ≡ true) × (length (book_image (result c es)) ≤ L)
unfolding ledger_answer
accepted L (set_name w s) es x v f h =
    let ok = clear (ledger_checks L (set_name w s) es) (reported (with (entry w s) es)) x h in (
      valid-with (entry w s) es v (not-false (is_name w) (ok _ (inl refl))) f (ok _ (inr (inl refl))),
      ltb-false L (length (book_image (with (entry w s) es))) (ok _ (inr (inr (inl refl)))),
    )
accepted L (withdraw_name w) es x v f h =
    let ok = clear (ledger_checks L (withdraw_name w) es) (reported (without w es)) x h in
    (valid-without w es v, ltb-false L (length (book_image (without w es))) (ok _ (inr (inr (inl refl)))))

-- one call
step_holds :
    (L : ℕ) (c : Edit) (es : List Entry) (b : Buffers) → Holds L es b → score_fits c ≡ true
    → Holds L (ledger_step L c es) (call_step c b)
unfolding call_step ledger_step
step_holds L c es b h f = rw (call_as L c es b h) (go (ledger_answer L c es) refl)
  where
    go :
        (a : Answer WrittenCounts) → ledger_answer L c es ≡ a
        → Holds L (on_answer a es (result c es))
        (on_answer a
        (record { book = b.book; other = on_answer a b.other (overwrite b.other (book_image (result c es))) })
        (record { book = on_answer a b.other (overwrite b.other (book_image (result c es))); other = b.book }))
    go (refused n) e = record { ok = h.ok; rest = h.rest; front = h.front; size = h.size; other_size = h.other_size }
    go (given x) e =
        let q = accepted L c es x h.ok f e in
        let fits : length (book_image (result c es)) ≤ length b.other = rw h.other_size q.1 in
        record {
          ok = q.0;
          rest = drop (length (book_image (result c es))) b.other;
          front = refl;
          size = overwrite-length b.other (book_image (result c es)) fits ∙ h.other_size;
          other_size = h.size;
        }

-- a list of calls
pub history-holds :
    (L : ℕ) (cs : List Edit) (es : List Entry) (b : Buffers) → Holds L es b → all score_fits cs ≡ true
    → Holds L (held L cs es) (buffers_after cs b)
history-holds L [] es b h f = h
history-holds L (c ∷ cs) es b h f =
    let a = and_true_both (score_fits c) (all score_fits cs) f in
    history-holds L cs (ledger_step L c es) (call_step c b) (step_holds L c es b h a.0) a.1

pub history-answers :
    (L : ℕ) (cs : List Edit) (es : List Entry) (b : Buffers) → Holds L es b → all score_fits cs ≡ true
    → answers cs b ≡ ledger_answers L cs es
history-answers L [] es b h f = refl
history-answers L (c ∷ cs) es b h f =
    let a = and_true_both (score_fits c) (all score_fits cs) f in
    let q = ap (λ o. o.answer) (call_as L c es b h) in
    let r = history-answers L cs (ledger_step L c es) (call_step c b) (step_holds L c es b h a.0) a.1 in
    cc

-- the start: an accepted "empty"
pub start_holds : (L : ℕ) (a b : List ℕ) → length a ≡ L → length b ≡ L → 7 ≤ L → Holds L [] (started a b)
start_holds L a b p q h =
    let e = ap (λ o. o.dest) (empty_given a (omega arith)) in
    record {
      ok = empty_valid;
      rest = drop (length (book_image [])) a;
      front = e;
      size = ap length e ∙ overwrite-length a (book_image []) (rw empty_length (omega arith)) ∙ p;
      other_size = q;
    }

-- a refused call changes neither buffer, whatever these hold
pub refused_unchanged : (c : Edit) (b : Buffers) (n : ℕ) → (call c b).answer ≡ refused n → call_step c b ≡ b
unfolding call_step writing_image writing
refused_unchanged c b n h = rw (h, call_is c b, rw (call_is c b) at h)

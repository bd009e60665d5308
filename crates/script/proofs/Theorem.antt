-- A run that is not refused is the ledger's history.
use Prim.Native.Nat.{◌*◌, ◌≤◌, suc, zero, ℕ}
use mathlib.Core.Path.{◌∙◌, ◌≡◌, ap, refl, sym}
use mathlib.Core.Logic.{inl, inr}
use mathlib.Core.Bool.{Bool, ◌||◌, false, not, true}
use mathlib.Core.List.{List, [], ◌∷◌}
use mathlib.Core.Option.{Option, none, some}
use lib.Dec.{eqb, ltb}
use lib.ListN.{drop, get_or, length}
use lib.Seq.{take-append_seam}
use native.Mathlib.Omega.{arith}
use borrow.Author.Tests.{eqb-true, ltb-false, not-false}
use Rattle.ledger.specs.History as history
use Rattle.octets.specs.Lists.{all, concat_map, if◌then◌otherwise◌}
use Rattle.octets.specs.Octets.{number_at, overwrite}
use Rattle.octets.proofs.Numbers.{Bytes, bytes_drop, number-below}
use Rattle.octets.proofs.Tests.{and_intro, by_test, or_false}
use Rattle.answer.specs.Answers.{Answer, PlayedCounts, WrittenCounts, given, refused}
use Rattle.book.specs.Book.{book_image}
use Rattle.answer.proofs.Answers.{clear, given_is}
use Rattle.ledger.specs.History.{Buffers, buffers_after, call, call_step, started}
use Rattle.ledger.specs.Ledger.{Edit, held, score_fits}
use Rattle.ledger.proofs.Demand.{offers_best_lem}
use Rattle.ledger.proofs.History.{history-answers, history-holds, reads, refused_unchanged, start_holds}
use Rattle.script.specs.Run.{Bench, bench_after, bench_answers, bench_call, bench_step, book_of, buffers_of}
use Rattle.script.specs.Run.{run_checks, run_of, start_bench, told}
use Rattle.script.specs.Script.{answer_bytes, call_at, call_length, calls, calls_from, calls_of, is_call, with_call}
use Rattle.script.specs.Theorem.{Ledgers, RefusedStays, RunLedgers, book_left}
use Rattle.entries.proofs.Valid.{score_fits_lem}
use Rattle.script.proofs.Script.{call-stands}

by_answer :
    {G : Type 0} (a : Answer WrittenCounts) → ((n : ℕ) → a ≡ refused n → G)
    → ((x : WrittenCounts) → a ≡ given x → G) → G
by_answer (refused n) f g = f n refl
by_answer (given x) f g = g x refl

-- the bench goes as the two buffers do
pub step_buffers : (c : Edit) (b : Bench) → buffers_of (bench_step c b) ≡ call_step c (buffers_of b)
unfolding bench_step call_step
step_buffers c b = by_answer (bench_call c b).answer (λ n e. by_test b.turned (λ t. rw (e, t)) (λ t. rw (e, t)))
    (λ x e. by_test b.turned (λ t. rw (e, t)) (λ t. rw (e, t)))

after-buffers : (cs : List Edit) (b : Bench) → buffers_of (bench_after cs b) ≡ buffers_after cs (buffers_of b)
after-buffers [] b = refl
after-buffers (c ∷ cs) b = after-buffers cs (bench_step c b) ∙ ap (buffers_after cs) (step_buffers c b)

answers-same : (cs : List Edit) (b : Bench) → bench_answers cs b ≡ history.answers cs (buffers_of b)
answers-same [] b = refl
answers-same (c ∷ cs) b = ap (λ l. (bench_call c b).answer ∷ l) (answers-same cs (bench_step c b)
    ∙ ap (history.answers cs) (step_buffers c b))

-- a refused call changes nothing
refused_dest : (c : Edit) (b : Buffers) (n : ℕ) → (call c b).answer ≡ refused n → (call c b).dest ≡ b.other
unfolding call_step
refused_dest c b n h = rw h at (ap (λ x. x.other) (refused_unchanged c b n h))

first_stays : (t : Bool) (x y : List ℕ) → (if t then (if t then x otherwise y) otherwise x) ≡ x
first_stays true x y = refl
first_stays false x y = refl

second_stays : (t : Bool) (x y : List ℕ) → (if t then y otherwise (if t then x otherwise y)) ≡ y
second_stays true x y = refl
second_stays false x y = refl

pub refused-bench : RefusedStays
unfolding bench_step
refused-bench c b n h =
    rw (
      h,
      refused_dest c (buffers_of b) n h,
      first_stays b.turned b.first b.second,
      second_stays b.turned b.first b.second,
    )

-- the scores of a script are numbers of 4 bytes
score_of_lem : (bs : List ℕ) → Bytes bs → is_call bs ≡ true → score_fits (call_at bs) ≡ true
unfolding call_at
score_of_lem bs k t =
    let s = call-stands bs t in
    let l = number-below 4 bs 1 k (omega (arith, s.long)) in
    by_test (eqb (get_or bs 0 0) 0) (λ u. rw u (score_fits_lem (number_at 4 bs 1) l)) (λ u. rw u)

fits_onward : (c : Edit) (o : Option (List Edit)) → score_fits c ≡ true → all score_fits (calls_of o) ≡ true
    → all score_fits (calls_of (with_call c o)) ≡ true
fits_onward c none f h = refl
fits_onward c (some cs) f h = and_intro (score_fits c) (all score_fits cs) f h

scores_fit : (n : ℕ) (bs : List ℕ) → Bytes bs → all score_fits (calls_of (calls_from n bs)) ≡ true
scores_fit zero [] k = refl
scores_fit zero (b ∷ bs) k = refl
scores_fit (suc n) [] k = refl
scores_fit (suc n) (b ∷ bs) k =
    let m = call_length (b ∷ bs) in
    let ih = scores_fit n (drop m (b ∷ bs)) (bytes_drop m (b ∷ bs) k) in
    by_test (is_call (b ∷ bs))
    (λ t. rw t (fits_onward (call_at (b ∷ bs)) (calls_from n (drop m (b ∷ bs))) (score_of_lem (b ∷ bs) k t) ih))
    (λ t. rw t)

-- an accepted run: its checks do not apply
pub record Accepted (script a b out : List ℕ) (p : PlayedCounts) : Type 0 where
  pub long : 7 ≤ length a
  pub even : length b ≡ length a
  pub played : record {
    calls = length (calls_of (calls script));
    turned = (bench_after (calls_of (calls script)) (start_bench a b)).turned;
  } ≡ p

module _ (script a b out : List ℕ) (p : PlayedCounts) (h : (run_of script a b out).answer ≡ given p) where
  abbrev cs : List Edit
  cs = calls_of (calls script)

  abbrev L : ℕ
  L = length a

  accepted : Accepted script a b out p
  unfolding run_of
  accepted =
      let x : PlayedCounts = record { calls = length cs; turned = (bench_after cs (start_bench a b)).turned } in
      let ok = clear (run_checks script a b out) x p h in
      let s = or_false (ltb (length a) 7) (not (eqb (length b) (length a)) || ltb (length out) (7 * length cs))
      (ok _ (inr (inl refl))) in
      let u = or_false (not (eqb (length b) (length a))) (ltb (length out) (7 * length cs)) s.1 in
      record {
        long = ltb-false (length a) 7 s.0;
        even = eqb-true (length b) (length a) (not-false (eqb (length b) (length a)) u.0);
        played = given_is (run_checks script a b out) x p h;
      }

  -- what the run leaves: the bench after all calls, and their answers
  left_out : (run_of script a b out).out ≡ overwrite out (told cs (start_bench a b))
  unfolding run_of
  left_out = rw h

  left_book : book_left p (run_of script a b out) ≡ book_of (bench_after cs (start_bench a b))
  unfolding run_of
  left_book = rw (h, ← accepted.played)

  ledgers : Bytes script → Ledgers L cs out p (run_of script a b out)
  unfolding calls
  ledgers k =
      let q = accepted in
      let f = scores_fit (length script) script k in
      let s = start_holds L a b refl q.even q.long in
      let m = history-holds L cs [] (started a b) s f in
      let e : book_left p (run_of script a b out) ≡ (buffers_after cs (started a b)).book =
      left_book ∙ ap (λ x. x.book) (after-buffers cs (start_bench a b))
      in
      record {
        made = ap (λ x. x.calls) (sym q.played);
        answered =
            left_out
            ∙ ap (λ l. overwrite out (concat_map answer_bytes l)) (answers-same cs (start_bench a b)
            ∙ history-answers L cs [] (started a b) s f);
        stands = rw (e, m.front) (take-append_seam (book_image (held L cs [])) m.rest);
        offers_best =
            rw e (offers_best_lem (held L cs []) _ (reads L (held L cs []) (buffers_after cs (started a b)) m) m.ok);
      }

pub run_ledgers : RunLedgers
run_ledgers script a b out p k h = ledgers script a b out p h k

-- a refused run changes no lent byte
pub run-refused :
    (script a b out : List ℕ) (n : ℕ) → (run_of script a b out).answer ≡ refused n
    → ((run_of script a b out).first ≡ a) × ((run_of script a b out).second ≡ b) × ((run_of script a b out).out ≡ out)
unfolding run_of
run-refused script a b out n h = (rw h, rw h, rw h)

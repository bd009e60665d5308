-- Playing a script: the calls that are left, performed now, give the whole history.
use Prim.Native.Nat.{◌*◌, ◌+◌, ◌<◌, ◌≤◌, ℕ}
use mathlib.Core.Path.{◌∙◌, ◌≡◌, ap, refl}
use mathlib.Core.Bool.{Bool, false, not, true}
use mathlib.Core.List.{List, [], ◌∷◌}
use mathlib.Core.Option as maybe
use lib.Dec.{leb}
use borrow.Author.Tests.{leb-false, leb-true}
use Rattle.std.proofs.Common.{None, Result, Some}
use lib.ListN.{drop, length, length-append, length-drop}
use lib.Seq.{length-sets, sets}
use native.Mathlib.Omega.{arith}
use Rattle.answer.specs.Answers.{on_answer}
use Rattle.octets.proofs.Stores.{sets-append, sets-overwrite}
use Rattle.octets.proofs.Tests.{by_test}
use Rattle.ledger.specs.Ledger.{Edit}
use Rattle.answer.specs.Reports.{written_of}
use Rattle.script_calls.specs.Code.{AllPlayed, Playable, found_length}
use Rattle.script_step.specs.Calls.{Performed}
use Rattle.script.specs.Run.{Bench, bench, bench_after, bench_call, bench_step, told}
use Rattle.script.specs.Script.{answer_bytes, call_at, call_length, calls, calls_of, is_call, is_laid, with_call}
use Rattle.script_step.proofs.Calling.{length_answer, performed_bench}
use Rattle.script_calls.proofs.Counting.{found_call, found_none}
use Rattle.script.proofs.Script.{call-stands, calls_at, calls_end, calls-none}
use Rattle.answer.specs.declared.Refusal.{Refusal}
use Rattle.answer.specs.declared.Size.{Size}

length-told : (cs : List Edit) (b : Bench) → length (told cs b) ≡ 7 * length cs
length-told [] b = omega arith
length-told (c ∷ cs) b =
    let ih = length-told cs (bench_step c b) in
    let l = length_answer (bench_call c b).answer in
    rw (length-append (answer_bytes (bench_call c b).answer) (told cs (bench_step c b))) (omega arith)

-- the calls of the bytes from an index on
abbrev pub calls_left : List ℕ → ℕ → List Edit
calls_left script at = calls_of (calls (drop at script))

pub record Playing (script : List ℕ) (b₀ : Bench) (out₀ : List ℕ) (at slot : ℕ) (b : Bench) (out : List ℕ) : Type 0
  where
    pub within : at ≤ length script
    pub laid : is_laid (calls (drop at script)) ≡ true
    pub room : slot + 7 * length (calls_left script at) ≤ length out
    pub benches : bench_after (calls_left script at) b ≡ bench_after (calls_left script 0) b₀
    pub first_size : length b.first ≡ length b₀.first
    pub second_size : length b.second ≡ length b₀.second
    pub out_size : length out ≡ length out₀
    pub answers : sets out slot (told (calls_left script at) b) ≡ sets out₀ 0 (told (calls_left script 0) b₀)

pub play_start : {script out : List ℕ} (b : Bench) → Playable script out → Playing script b out 0 0 b out
play_start b p =
    record {
      within = omega arith;
      laid = p.laid;
      room = omega (arith, p.room);
      benches = refl;
      first_size = refl;
      second_size = refl;
      out_size = refl;
      answers = refl;
    }

onward_laid : (c : Edit) (o : maybe.Option (List Edit)) → is_laid (with_call c o) ≡ true → (is_laid o ≡ true)
    × (calls_of (with_call c o) ≡ c ∷ calls_of o)
onward_laid c maybe.none h = (h, let z : ◌≡◌ {A = Bool} false true = h in cc)
onward_laid c (maybe.some cs) h = (refl, refl)

module _ {script : List ℕ} {b₀ : Bench} {out₀ : List ℕ} {at slot : ℕ} {b : Bench} {out : List ℕ}
    (k : Playing script b₀ out₀ at slot b out) where
  play_call : at < length script → is_call (drop at script) ≡ true
  play_call h =
      by_test (is_call (drop at script)) (λ t. t)
      (λ t.
      let l = length-drop at script in
      let n = calls-none (drop at script) (omega arith) t in
      let z : ◌≡◌ {A = Bool} false true = rw n at k.laid in
      cc)

  module _ {len : ℕ} (e : Some len ≡ found_length (drop at script)) where
    pub play_stands : is_call (drop at script) ≡ true
    play_stands = (found_call (drop at script) e).0

    size : len ≡ call_length (drop at script)
    size = (found_call (drop at script) e).1

    next : (is_laid (calls (drop (at + len) script)) ≡ true)
        × (calls_left script at ≡ call_at (drop at script) ∷ calls_left script (at + len))
    next =
        let n = calls_at script at play_stands size in
        let q = onward_laid (call_at (drop at script)) (calls (drop (at + len) script)) (rw n at k.laid) in
        (q.0, ap calls_of n ∙ q.1)

    pub play_within : at + len ≤ length script
    play_within = omega (arith, (call-stands (drop at script) play_stands).whole, k.within, length-drop at script, size)

    pub play_less : at < at + len
    play_less = omega (arith, size)

    pub play_on :
        {r : Result Size Refusal} {one two left : List ℕ} {t : Bool} → length one ≡ length b.first
        → length two ≡ length b.second
        → Performed (call_at (drop at script)) b r one two → t ≡ on_answer (written_of r) b.turned (not b.turned)
        → left ≡ sets out slot (answer_bytes (written_of r))
        → Playing script b₀ out₀ (at + len) (slot + 7) (bench one two t) left
    play_on {r} {one} {two} {left} {t} x y p q s =
        let n = next in
        let st = performed_bench p q in
        let same : length left ≡ length out = rw s (length-sets out slot (answer_bytes (written_of r))) in
        let seven : length (answer_bytes (written_of r)) ≡ 7 = length_answer (written_of r) in
        let rest = told (calls_left script (at + len)) (bench_step (call_at (drop at script)) b) in
        let on : sets left (slot + 7) rest ≡ sets out slot (told (calls_left script at) b) =
        rw (n.1, s, ← p.answer, ← seven) (sets-append out (answer_bytes (written_of r)) rest slot)
        in
        record {
          within = play_within;
          laid = n.0;
          room = omega (arith, ap length n.1, k.room);
          benches = rw st (rw n.1 at k.benches);
          first_size = x ∙ k.first_size;
          second_size = y ∙ k.second_size;
          out_size = same ∙ k.out_size;
          answers = rw st (on ∙ k.answers);
        }

    pub play_room : slot + 7 ≤ length out
    play_room = omega (arith, ap length next.1, k.room)

  pub play_end : Playable script out₀ → None ≡ found_length (drop at script) → AllPlayed script b₀ out₀ b out
  play_end p e =
      let h : length script ≤ at =
      by_test (leb (length script) at) (λ t. leb-true (length script) at t)
      (λ t.
      let c = play_call (leb-false (length script) at t) in
      let n = found_none (drop at script) e in
      cc)
      in
      let l = length-drop at script in
      let cs : calls_left script at ≡ [] = ap calls_of (calls_end (drop at script) (omega arith)) in
      let m = length-told (calls_left script 0) b₀ in
      record {
        bench = rw cs at k.benches;
        answers = (rw cs at k.answers) ∙ sets-overwrite out₀ (told (calls_left script 0) b₀) (omega (arith, p.room));
      }

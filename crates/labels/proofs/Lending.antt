-- Between two lines, and between two reads: the lent buffers keep their lengths, there is room for a line, and the
-- console that they hold is the one that the bytes used lead to.
use Prim.Native.Nat.{◌+◌, ◌≤◌, ℕ}
use mathlib.Core.Path.{◌∙◌, ◌≡◌, ap, refl, subst, sym}
use mathlib.Core.Bool.{Bool, false}
use mathlib.Core.List.{List, [], ◌++◌}
use lib.ListN.{drop, length, length-drop, take, take-append-drop}
use lib.Seq.{drop-drop, drop-length, length-take-le, sets}
use native.Mathlib.Omega.{arith}
use Rattle.octets.proofs.Stores.{take-sets}
use Rattle.script.specs.Run.{bench, start_bench}
use Rattle.program.specs.Program.{buffer_length, lines}
use Rattle.program.specs.Console.{BytesFed, Console, SomeFed, bench_last, console, console_after, console_in, kept_bytes}
use Rattle.program.specs.Console.{said_for, said_last}
use Rattle.program.specs.Theorem.{BookStands, ProgramRan, held_for, start_console}
use Rattle.program.proofs.Input.{in_parts_lem, input_says}
use Rattle.program_step.specs.declared.LineReport.{LineReport}
use Rattle.program_run.specs.Feed.{FeedDone, FeedRoom, FinishDone}
use Rattle.program_run.specs.declared.Fed.{Fed}

pub record Ready (line₀ first₀ second₀ out₀ line first second out : List ℕ) (kept : ℕ) : Type 0 where
  pub room : FeedRoom kept line out
  pub line_size : length line ≡ length line₀
  pub first_size : length first ≡ length first₀
  pub second_size : length second ≡ length second₀
  pub out_size : length out ≡ length out₀

pub ready_start : (first second : List ℕ) {line out : List ℕ} {kept : ℕ} → FeedRoom kept line out
    → Ready line first second out line first second out kept
ready_start first second r = record { room = r; line_size = refl; first_size = refl; second_size = refl; out_size = refl }

pub ready_on :
    {line₀ first₀ second₀ out₀ line first second out : List ℕ} {kept : ℕ}
    → Ready line₀ first₀ second₀ out₀ line first second out kept
    → {l one two left : List ℕ} {n : ℕ} → n ≤ kept_bytes → length l ≡ length line → length one ≡ length first
    → length two ≡ length second
    → length left ≡ length out → Ready line₀ first₀ second₀ out₀ l one two left n
ready_on k f a b c e =
    record {
      room = record { few = f; long = omega (arith, k.room.long); wide = omega (arith, k.room.wide) };
      line_size = a ∙ k.line_size;
      first_size = b ∙ k.first_size;
      second_size = c ∙ k.second_size;
      out_size = e ∙ k.out_size;
    }

-- Within a part: what is left of it, fed to the console t, leads where all of it leads from the console s.
pub record Feeding (part : List ℕ) (s : Console) (used : ℕ) (t : Console) : Type 0 where
  pub within : used ≤ length part
  pub leads : console_after (drop used part) t ≡ console_after part s

pub feeding_start : (part : List ℕ) (s : Console) → Feeding part s 0 s
feeding_start part s = record { within = omega arith; leads = refl }

module _ {part : List ℕ} {s : Console} {used : ℕ} {t : Console} (f : Feeding part s used t) where
  pub feeding_on :
      {out : List ℕ} {r : Fed} {line one two left : List ℕ} → FeedDone (drop used part) t out r line one two left
      → Feeding part s (used + r.used) (console_in r.kept r.turned line one two)
  feeding_on {r = r} d =
      let rest = drop used part in
      let n = r.used in
      record {
        within = omega (arith, d.within, f.within, length-drop used part);
        leads =
            ap (console_after (drop (used + n) part)) d.state
            ∙ ap (λ l. console_after l (console_after (take n rest) t)) (sym (drop-drop n used part))
            ∙ sym (in_parts_lem (take n rest) (drop n rest) t).0
            ∙ ap (λ l. console_after l t) (take-append-drop n rest)
            ∙ f.leads;
      }

  pub feeding_end : length part ≤ used → t ≡ console_after part s
  feeding_end h =
      let e : used ≡ length part = omega (arith, f.within) in
      ap (λ l. console_after l t) (sym (drop-length part) ∙ ap (λ n. drop n part) (sym e)) ∙ f.leads

-- the first n bytes of the input were fed, and got of them are told
pub fed_read :
    (input : List ℕ) {n got : ℕ} → n ≤ length input → got ≡ length (take n input)
    → {s : Console} {kept : ℕ} {turned : Bool} {line one two : List ℕ}
    → BytesFed (take n input) s kept turned line one two
    → BytesFed (take got input) s kept turned line one two × (got ≤ length input)
fed_read input {n} {got} h e {s} {kept} {turned} {line} {one} {two} d =
    let z : got ≡ n = e ∙ length-take-le n input h in
    (subst (λ k. BytesFed (take k input) s kept turned line one two) (sym z) d, omega arith)

-- bytes stored at the front stand there
front_stored : (out vs : List ℕ) {n : ℕ} {left : List ℕ} → left ≡ sets out 0 vs → n ≡ 0 + length vs → n ≤ length out
    → take n left ≡ vs
front_stored out vs {left = left} s e i =
    ap (λ k. take k left) e ∙ ap (take (0 + length vs)) s ∙ take-sets out 0 vs (omega arith)

-- The end of the input, behind the bytes read: what is left is what the ledger says of them.
module _ (a b : List ℕ) (p : length a ≡ buffer_length) (q : length b ≡ buffer_length) where
  pub program_ran :
      (line : List ℕ) {start : List ℕ} → start ≡ (start_bench a b).first
      → {kept : ℕ} {turned : Bool} {l one two : List ℕ} → SomeFed (console_in 0 false line start b) kept turned l one two
      → {out : List ℕ} {r : LineReport} {x y left : List ℕ}
      → FinishDone (console_in kept turned l one two) out r x y left
      → ProgramRan a b r.bytes r.turned x y left
  program_ran line e {kept} {turned} {l} {one} {two} d {out} {r} {left = left} f =
      let input = d.bytes in
      let s = input_says input a b p q in
      let c = console_in kept turned l one two in
      let g : c ≡ console_after input (start_console a b) =
      d.fed.state ∙ ap (λ k. console_after input (console [] (bench k b false))) e
      in
      let z = front_stored out (said_last c) f.printed.stored f.printed.ends f.printed.inside in
      record {
        input = input;
        printed = ap (λ k. said_for input (start_console a b) ++ k) (z ∙ ap said_last g)
            ∙ s.printed;
        stands = subst (BookStands (held_for (lines input) [])) (sym (f.bench ∙ ap bench_last g)) s.stands;
      }

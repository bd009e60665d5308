-- The program on a whole input, byte by byte: the lines of the input, and the one begun.
use Prim.Native.Nat.{◌+◌, ◌-◌, ◌≤◌, ℕ}
use mathlib.Core.Path.{◌∙◌, ◌≡◌, ap, refl, subst, sym}
use mathlib.Core.Bool.{Bool, false, true}
use mathlib.Core.List.{List, [], ◌++◌, ◌∷◌, append_assoc, append-nil}
use lib.Dec.{eqb, eqb-suc-zero}
use lib.ListN.{length, take}
use native.Mathlib.Omega.{arith}
use borrow.Author.Tests.{eqb-true, not-true}
use Rattle.octets.specs.Lists.{all}
use Rattle.octets.proofs.Tests.{and_true_both, by_test}
use Rattle.entries.specs.Entries.{Entry}
use Rattle.ledger.proofs.History.{Holds}
use Rattle.script.specs.Run.{Bench, buffers_of, start_bench}
use Rattle.program.specs.Program.{buffer_length, command_of, held_after, lines, output_of, printed, program}
use Rattle.program.specs.Console.{Console, bench_last, console, console_after, fed_by, in_line, kept_bytes, left_by}
use Rattle.program.specs.Console.{BytesFed, SomeFed, console_in, said_at, said_for, said_last, shown_by}
use Rattle.program.specs.Theorem.{InParts, InputSays, held_for, start_console}
use Rattle.program.proofs.Cutting.{after-append, cut_alike_lem, said_append, take_twice}
use Rattle.program.proofs.Theorem.{holds-stands, line_goes, start_bench_lem}

-- the lines of bytes: a line and its line feed, and one that lacks it
lines-line : (p bs : List ℕ) → all in_line p ≡ true → lines (p ++ 10 ∷ bs) ≡ p ∷ lines bs
lines-line [] bs h = refl
lines-line (x ∷ p) bs h =
    let a = and_true_both (in_line x) (all in_line p) h in
    let t : eqb x 10 ≡ false = not-true (eqb x 10) a.0 in
    rw (t, lines-line p bs a.1)

lines_last : (x : ℕ) (p : List ℕ) → all in_line (x ∷ p) ≡ true → lines (x ∷ p) ≡ (x ∷ p) ∷ []
lines_last x [] h =
    let a = and_true_both (in_line x) true h in
    let t : eqb x 10 ≡ false = not-true (eqb x 10) a.0 in
    rw t
lines_last x (y ∷ p) h =
    let a = and_true_both (in_line x) (all in_line (y ∷ p)) h in
    let t : eqb x 10 ≡ false = not-true (eqb x 10) a.0 in
    rw (t, lines_last y p a.1)

all_more : (p : List ℕ) (x : ℕ) → all in_line p ≡ true → in_line x ≡ true → all in_line (p ++ (x ∷ [])) ≡ true
all_more [] x h k = rw k
all_more (y ∷ p) x h k = let a = and_true_both (in_line y) (all in_line p) h in rw a.0 (all_more p x a.1 k)

-- a line of which 64 bytes are kept
record Carried (p : List ℕ) (es : List Entry) (b : Bench) : Type 0 where
  pub shown : shown_by (command_of (take kept_bytes p)) b ≡ printed (command_of p) es
  pub holds : Holds buffer_length (held_after (command_of p) es) (buffers_of (left_by (command_of (take kept_bytes p)) b))

carried : (p : List ℕ) (es : List Entry) (b : Bench) → Holds buffer_length es (buffers_of b) → Carried p es b
carried p es b h =
    let g = line_goes (take kept_bytes p) es b h in
    let c = cut_alike_lem p kept_bytes es (omega arith) in
    record { shown = g.shown ∙ c.shown; holds = rw (← c.held) g.holds }

-- the line begun is p, of which 64 bytes are kept
record Says (input p : List ℕ) (es : List Entry) (s : Console) : Type 0 where
  pub shown : said_for input s ++ said_last (console_after input s) ≡ output_of es (lines (p ++ input))
  pub holds : Holds buffer_length (held_for (lines (p ++ input)) es) (buffers_of (bench_last (console_after input s)))

says_end : (p : List ℕ) (es : List Entry) (b : Bench) → all in_line p ≡ true → Holds buffer_length es (buffers_of b)
    → Says [] p es (console (take kept_bytes p) b)
says_end [] es b a h = record { shown = refl; holds = h }
says_end (x ∷ p) es b a h =
    let c = carried (x ∷ p) es b h in
    let z = eqb-suc-zero (length (take 63 p)) in
    let l = ap lines (append-nil (x ∷ p)) ∙ lines_last x p a in
    record {
      shown = rw (z, l) (c.shown ∙ sym (append-nil (printed (command_of (x ∷ p)) es)));
      holds = rw (z, l) c.holds;
    }

-- one byte more, from what it prints and leaves
says_next :
    (x : ℕ) (bs p : List ℕ) (es : List Entry) (s next : Console) (u : List ℕ) → said_at x s ≡ u → fed_by x s ≡ next
    → (u ++ said_for bs next) ++ said_last (console_after bs next) ≡ output_of es (lines (p ++ x ∷ bs))
    → Holds buffer_length (held_for (lines (p ++ x ∷ bs)) es) (buffers_of (bench_last (console_after bs next)))
    → Says (x ∷ bs) p es s
says_next x bs p es s next u e f q h =
    record {
      shown =
          ap (λ v. (v ++ said_for bs (fed_by x s)) ++ said_last (console_after bs (fed_by x s))) e
          ∙ ap (λ n. (u ++ said_for bs n) ++ said_last (console_after bs n)) f
          ∙ q;
      holds = subst (λ n. Holds buffer_length (held_for (lines (p ++ x ∷ bs)) es)
          (buffers_of (bench_last (console_after bs n)))) (sym f) h;
    }

-- a line feed, and another byte
module _ (x : ℕ) (bs p : List ℕ) (es : List Entry) (b : Bench) (a : all in_line p ≡ true) where
  says_feed :
      eqb x 10 ≡ true → Carried p es b
      → Says bs [] (held_after (command_of p) es) (console [] (left_by (command_of (take kept_bytes p)) b))
      → Says (x ∷ bs) p es (console (take kept_bytes p) b)
  says_feed t c i =
      let l : lines (p ++ x ∷ bs) ≡ p ∷ lines bs = rw (eqb-true x 10 t) (lines-line p bs a) in
      let k = command_of (take kept_bytes p) in
      let s = console [] (left_by k b) in
      says_next x bs p es (console (take kept_bytes p) b) s (shown_by k b) (rw t) (rw t)
      (rw l
      (append_assoc (shown_by k b) (said_for bs s) (said_last (console_after bs s))
      ∙ ap (λ y. y ++ (said_for bs s ++ said_last (console_after bs s))) c.shown
      ∙ ap (λ y. printed (command_of p) es ++ y) i.shown))
      (rw l i.holds)

  says_byte :
      eqb x 10 ≡ false → Says bs (p ++ (x ∷ [])) es (console (take kept_bytes (p ++ (x ∷ []))) b)
      → Says (x ∷ bs) p es (console (take kept_bytes p) b)
  says_byte t i =
      let w = take_twice kept_bytes p (x ∷ []) in
      let l = append_assoc p (x ∷ []) bs in
      says_next x bs p es (console (take kept_bytes p) b) (console (take kept_bytes (p ++ (x ∷ []))) b) [] (rw t)
      (rw (t, w)) (rw l at i.shown)
      (rw l at i.holds)

says : (input p : List ℕ) (es : List Entry) (b : Bench) → all in_line p ≡ true → Holds buffer_length es (buffers_of b)
    → Says input p es (console (take kept_bytes p) b)
says [] p es b a h = says_end p es b a h
says (x ∷ bs) p es b a h =
    let c = carried p es b h in
    by_test (eqb x 10)
    (λ t. says_feed x bs p es b a t c
    (says bs [] (held_after (command_of p) es) (left_by (command_of (take kept_bytes p)) b) refl c.holds))
    (λ t.
    let k : in_line x ≡ true = rw t in
    says_byte x bs p es b a t (says bs (p ++ (x ∷ [])) es b (all_more p x a k) h))

pub input_says : InputSays
unfolding program
input_says input a b p q =
    let s = says input [] [] (start_bench a b) refl (start_bench_lem a b p q) in
    record {
      printed = s.shown;
      stands = holds-stands (held_for (lines input) [])
          (bench_last (console_after input (start_console a b))) s.holds;
    }

-- input fed in two parts is as fed at once
pub in_parts_lem : InParts
in_parts_lem xs ys s = (after-append xs ys s, said_append xs ys s)

-- no byte fed, and bytes fed behind others
pub fed_none : (kept : ℕ) (turned : Bool) (line one two : List ℕ) → kept ≤ kept_bytes
    → SomeFed (console_in kept turned line one two) kept turned line one two
fed_none kept turned line one two f = record { bytes = []; fed = record { few = f; state = refl } }

pub fed_more :
    {s : Console} {kept : ℕ} {turned : Bool} {line one two : List ℕ} → SomeFed s kept turned line one two
    → {xs : List ℕ} {k : ℕ} {t : Bool} {l a b : List ℕ} → BytesFed xs (console_in kept turned line one two) k t l a b
    → SomeFed s k t l a b
fed_more {s = s} d {xs} e =
    record {
      bytes = d.bytes ++ xs;
      fed =
          record {
            few = e.few;
            state = e.state ∙ ap (console_after xs) d.fed.state ∙ sym (after-append d.bytes xs s);
          };
    }

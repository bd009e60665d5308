-- Input fed in parts: up to a line feed, or without one.
use Prim.Native.Nat.{◌+◌, ◌-◌, ◌<◌, ◌≤◌, min, suc, ℕ}
use mathlib.Core.Path.{◌∙◌, ◌≡◌, ap, refl, sym}
use mathlib.Core.Bool.{Bool, false, true}
use mathlib.Core.List.{List, [], ◌++◌, ◌∷◌, append_assoc, append-nil}
use lib.Dec.{eqb, leb}
use lib.ListN.{get_or, length, length-append, length-take, take}
use lib.Seq.{length-take-le, sets, take_all, take-append-add, take-suc}
use native.Mathlib.Numerals.{add-one}
use Rattle.std.proofs.Common.{Option, ◌≢◌}
use Rattle.std.specs.List.{AllWithin, HoldsAt}
use Rattle.std.specs.Option.{MatchOption, unwrap_or}
use Rattle.std.proofs.lemmas.Iterator.{index_from_first}
use native.Mathlib.Omega.{arith}
use borrow.Author.Tests.{eq-eqb, eqb-true, leb-false, leb-true, ne_eqb, not-false, not-true}
use Rattle.octets.specs.Lists.{all}
use Rattle.octets.proofs.Tests.{and_true_both, by_test}
use Rattle.octets.proofs.Stores.{take-sets}
use Rattle.script.specs.Run.{Bench, bench}
use Rattle.program.specs.Program.{command_of, front}
use Rattle.program_parse.proofs.Digits.{front_most}
use Rattle.program.specs.Console.{console, console_after, in_line, kept_bytes, left_by, said_for, shown_by}
use Rattle.program_run.specs.Feed.{FeedDone, FinishDone, LineKept, line_of}
use Rattle.program_step.specs.Step.{StepDone}
use Rattle.program_step.specs.declared.LineReport.{LineReport}
use Rattle.program.proofs.Cutting.{after-append, said_append, take_twice}

-- the first line feed, or the end, ends the line
pub line_first :
    (s : List ℕ) (r : Option ℕ)
    → MatchOption r (AllWithin (λ x. x ≢ 10) s 0 (length s))
    (λ i. (i < length s) × HoldsAt (λ x. x ≡ 10) s i × AllWithin (λ x. x ≢ 10) s 0 i)
    → unwrap_or r (length s) ≡ length (line_of s)
line_first s r h =
    sym (index_from_first (λ l. length (line_of l)) (λ x. x ≡ 10) (λ x. x ≢ 10) refl
    (λ x xs e. rw (eq-eqb x 10 e))
    (λ x xs n. rw (ne_eqb x 10 n, add-one (length (line_of xs))))
    s r h)

-- at most m of a list: as many as there are, or m
take_least : (m : ℕ) (xs : List ℕ) → take (min (length xs) m) xs ≡ take m xs
take_least m xs =
    by_test (leb (length xs) m)
    (λ t.
    let l = leb-true (length xs) m t in
    take_all (min (length xs) m) xs (omega arith) ∙ sym (take_all m xs l))
    (λ t.
    let l : m < length xs = leb-false (length xs) m t in
    let z : min (length xs) m ≡ m = omega arith in
    rw z)

-- a part put behind what is kept
pub kept_part :
    (line : List ℕ) (kept : ℕ) (part : List ℕ) {n : ℕ} {left : List ℕ} → kept ≤ kept_bytes → kept_bytes ≤ length line
    → n ≡ min (length part) (64 - kept) → left ≡ sets line kept (take n part) → LineKept line kept part (kept + n) left
kept_part line kept part {n} {left} f l e s =
    let a : length (take n part) ≡ n = length-take-le n part (omega arith) in
    let t : take (kept + length (take n part)) left ≡ take kept line
    ++ take n part = rw s (take-sets line kept (take n part) (omega arith)) in
    let u : take (kept + n) left ≡ take kept line ++ take n part = rw a at t in
    let b : length (take kept line) ≡ kept = length-take-le kept line (omega arith) in
    record { few = omega arith; bytes = u ∙ same b }
  where
    same : length (take kept line) ≡ kept → take kept line ++ take n part ≡ take kept_bytes (take kept line ++ part)
    same b =
        let z : length (take kept line) + (64 - kept) ≡ 64 = omega arith in
        ap (λ l. take kept line ++ l) (rw e (take_least (64 - kept) part))
        ∙ sym (take-append-add (take kept line) part (64 - kept))
        ∙ ap (λ k. take k (take kept line ++ part)) z

-- bytes of a line: nothing is printed, and the first 64 are kept
quiet : (xs l : List ℕ) (b : Bench) → all in_line xs ≡ true → said_for xs (console l b) ≡ []
quiet [] l b h = refl
quiet (x ∷ xs) l b h =
    let p = and_true_both (in_line x) (all in_line xs) h in
    let t : eqb x 10 ≡ false = not-true (eqb x 10) p.0 in
    rw t (quiet xs (take kept_bytes (l ++ (x ∷ []))) b p.1)

begun : (xs l : List ℕ) (b : Bench) → all in_line xs ≡ true → length l ≤ kept_bytes
    → console_after xs (console l b) ≡ console (take kept_bytes (l ++ xs)) b
begun [] l b h f = ap (λ y. console y b) (sym (take_all kept_bytes (l ++ []) (omega (arith, length-append l []))
    ∙ append-nil l))
begun (x ∷ xs) l b h f =
    let p = and_true_both (in_line x) (all in_line xs) h in
    let t : eqb x 10 ≡ false = not-true (eqb x 10) p.0 in
    let k = take kept_bytes (l ++ (x ∷ [])) in
    let ih = begun xs k b p.1 (omega (arith, length-take kept_bytes (l ++ (x ∷ [])))) in
    let e : take kept_bytes (k ++ xs) ≡ take kept_bytes (l ++ x ∷ xs) = take_twice kept_bytes (l ++ (x ∷ [])) xs
    ∙ ap (take kept_bytes) (append_assoc l (x ∷ []) xs) in
    rw t (ih ∙ ap (λ y. console y b) e)

-- the bytes in front of the first line feed, and that line feed
front-all : (p : ℕ → Bool) (s : List ℕ) → all p (front p s) ≡ true
front-all p [] = refl
front-all p (x ∷ s) = by_test (p x) (λ t. rw (t, t) (front-all p s)) (λ t. rw t)

front-take : (p : ℕ → Bool) (s : List ℕ) → take (length (front p s)) s ≡ front p s
front-take p [] = refl
front-take p (x ∷ s) = by_test (p x) (λ t. rw t (ap (λ l. x ∷ l) (front-take p s))) (λ t. rw t)

front_stop : (p : ℕ → Bool) (s : List ℕ) → length (front p s) < length s → p (get_or s (length (front p s)) 0) ≡ false
front_stop p [] h = absurd (omega arith)
front_stop p (x ∷ s) h = by_test (p x) (λ t. rw t (front_stop p s (rest t))) (λ t. rw t t)
  where
    rest : p x ≡ true → length (front p s) < length s
    rest t = let g : suc (length (front p s)) < suc (length s) = rw t at h in omega arith

-- what a turn without a line feed gives, and one with it
module _ (input : List ℕ) {end : ℕ} (e : end ≡ length (line_of input)) where
  part : take end input ≡ line_of input
  part = rw e (front-take in_line input)

  pub part_within : end ≤ length input
  part_within = omega (arith, front_most in_line input)

  -- all of it belongs to the line
  pub feed_begun :
      (l : List ℕ) (b : Bench) → length l ≤ kept_bytes → {line out : List ℕ} {n : ℕ} {t : Bool} → length input ≤ end
      → n ≤ kept_bytes → take n line ≡ take kept_bytes (l ++ take end input)
      → {one two : List ℕ} → bench one two t ≡ b
      → FeedDone input (console l b) out (record { used = end; bytes = 0; kept = n; turned = t }) line one two out
  feed_begun l b f {line} {out} {n} {t} h k q {one} {two} g =
      record {
        within = part_within;
        ahead = λ p. omega arith;
        few = k;
        state =
            rw (q, g)
            (sym (rw part (begun (line_of input) l b (front-all in_line input) f)));
        printed = rw (part, quiet (line_of input) l b (front-all in_line input))
            (record { stored = refl; ends = refl; inside = omega arith });
      }

  -- it ends the line, which is carried out
  module _ (l : List ℕ) (b : Bench) (f : length l ≤ kept_bytes) (h : end < length input) where
    feed_there : get_or input end 0 ≡ 10
    feed_there =
        let s = front_stop in_line input (omega arith) in
        let z : in_line (get_or input end 0) ≡ false = rw e s in
        eqb-true (get_or input end 0) 10 (not-false (eqb (get_or input end 0) 10) z)

    whole : take (end + 1) input ≡ line_of input ++ (10 ∷ [])
    whole = rw (add-one end) (take-suc input end 0 h ∙ rw (part, feed_there))

    pub feed_line :
        {line out : List ℕ} (n : ℕ) {r : LineReport} {one two left : List ℕ}
        → take n line ≡ take kept_bytes (l ++ take end input)
        → StepDone (command_of (take n line)) b out r one two left
        → FeedDone input (console l b) out (record { used = end + 1; bytes = r.bytes; kept = 0; turned = r.turned })
        line one two left
    feed_line {line} {out} n {r} {one} {two} {left} q d =
        let a = front-all in_line input in
        let k = take kept_bytes (l ++ line_of input) in
        let g : take n line ≡ k = q ∙ ap (λ y. take kept_bytes (l ++ y)) part in
        let s : StepDone (command_of k) b out r one two left = rw g at d in
        let x : console_after (take (end + 1) input) (console l b) ≡ console [] (left_by (command_of k) b) =
        rw whole (after-append (line_of input) (10 ∷ []) (console l b)
        ∙ ap (console_after (10 ∷ [])) (begun (line_of input) l b a f))
        in
        let y : said_for (take (end + 1) input) (console l b) ≡ shown_by (command_of k) b =
        rw whole
        (said_append (line_of input) (10 ∷ []) (console l b)
        ∙ rw (quiet (line_of input) l b a, begun (line_of input) l b a f) (append-nil (shown_by (command_of k) b)))
        in
        record {
          within = omega arith;
          ahead = λ p. omega arith;
          few = omega arith;
          state = ap (console []) s.bench ∙ sym x;
          printed = rw y s.printed;
        }

-- the end of the input: no line is begun, or one is
module _ (line : List ℕ) (b : Bench) {kept : ℕ} {out : List ℕ} where
  pub finish_none :
      {t : Bool} {one two : List ℕ} → kept ≡ 0 → bench one two t ≡ b
      → FinishDone (console (take kept line) b) out (record { bytes = 0; turned = t }) one two out
  finish_none z g = rw z (record { bench = g; printed = record { stored = refl; ends = refl; inside = omega arith } })

  pub finish_line :
      {r : LineReport} {one two left : List ℕ} → (kept ≡ 0 → ⊥) → kept ≤ length line
      → StepDone (command_of (take kept line)) b out r one two left
      → FinishDone (console (take kept line) b) out r one two left
  finish_line z l s =
      let e = length-take-le kept line l in
      let q = ne_eqb (length (take kept line)) 0 (λ y. z (omega arith)) in
      record { bench = rw q s.bench; printed = rw q s.printed }

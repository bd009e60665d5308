-- What command lines print on two buffers is what the ledger says of them.
use Prim.Native.Nat.{◌^◌, ℕ}
use mathlib.Core.Path.{◌≡◌, ap, refl}
use mathlib.Core.Bool.{Bool, ◌&&◌, false, not, true}
use mathlib.Core.List.{List, [], ◌∷◌}
use lib.Dec.{leb, ltb}
use lib.ListN.{drop, length}
use lib.Seq.{take-append_seam}
use native.Mathlib.Omega.{arith}
use borrow.Author.Tests.{le-ltb}
use Rattle.program.specs.Program as program
use Rattle.octets.specs.Decimal.{value_on}
use Rattle.octets.specs.Octets.{begins}
use Rattle.octets.specs.Text.{text}
use Rattle.octets.proofs.Tests.{and_intro, and_true_both, by_test}
use Rattle.entries.specs.Entries.{Entry, entry, holds, max_entries, valid, with, without}
use Rattle.entries.specs.Names.{is_name, is_score}
use Rattle.entries.proofs.Edits.{valid-with, valid-without}
use Rattle.answer.specs.Answers.{Answer, WrittenCounts, given, refused}
use Rattle.book.specs.Book.{book_image, today}
use Rattle.book.proofs.Checks.{read_not_old}
use Rattle.book.proofs.Size.{book_length_lem}
use Rattle.ledger.specs.Ledger.{ledger_answer, score_fits, set_name, withdraw_name}
use Rattle.ledger.proofs.History.{Holds, history-answers, history-holds, is_book_lem, reads, start_holds}
use Rattle.script.specs.Run.{Bench, bench_call, book_of, buffers_of, start_bench}
use Rattle.script.proofs.Theorem.{step_buffers}
use Rattle.program.specs.Program.{bad, buffer_length, command_of, digits, edit, edit_line, has_number, held_after}
use Rattle.program.specs.Program.{numbered, output_of, printed, top}
use Rattle.program.specs.Console.{left_by, shown_by, top_of}
use Rattle.program.specs.Theorem.{BookStands, LinesSay, NeverSeven, held_for, left_for, shown_for}

-- the score of a set is a number of 4 bytes
abbrev fits : program.Command → Bool
fits (edit c) = score_fits c
fits (top k p) = true
fits bad = true

set_fits : (bs : List ℕ) → fits (numbered (λ n w. edit (set_name w n)) bs) ≡ true
unfolding is_score
set_fits bs =
    by_test (has_number bs)
    (λ t.
    let ds = digits bs in
    let a = and_true_both (leb 1 (length ds)) (leb (length ds) 10
    && (ltb (value_on 0 ds) (2 ^ 32) && begins (text " ") (drop (length ds) bs))) t in
    let b = and_true_both (leb (length ds) 10) (ltb (value_on 0 ds) (2 ^ 32)
    && begins (text " ") (drop (length ds) bs)) a.1 in
    let d = (and_true_both (ltb (value_on 0 ds) (2 ^ 32)) (begins (text " ") (drop (length ds) bs)) b.1).0 in
    rw t d)
    (λ t. rw t)

top_fits : (bs : List ℕ) → fits (numbered top bs) ≡ true
top_fits bs = by_test (has_number bs) (λ t. rw t) (λ t. rw t)

line_fits : (line : List ℕ) → fits (command_of line) ≡ true
unfolding command_of
line_fits line =
    by_test (begins (text "set ") line) (λ t. rw t (set_fits (drop 4 line)))
    (λ t.
    by_test (begins (text "top ") line) (λ u. rw (t, u) (top_fits (drop 4 line)))
    (λ u. by_test (begins (text "del ") line) (λ v. rw (t, u, v)) (λ v. rw (t, u, v))))

-- one command
pub record Goes (c : program.Command) (es : List Entry) (b : Bench) : Type 0 where
  pub shown : shown_by c b ≡ printed c es
  pub holds : Holds buffer_length (held_after c es) (buffers_of (left_by c b))

command_goes : (c : program.Command) (es : List Entry) (b : Bench) → Holds buffer_length es (buffers_of b)
    → fits c ≡ true → Goes c es b
unfolding top_of
command_goes (edit c) es b h f =
    let g = and_intro (score_fits c) true f refl in
    let a = history-answers buffer_length (c ∷ []) es (buffers_of b) h g in
    let e : (bench_call c b).answer ≡ ledger_answer buffer_length c es = cc in
    let m = history-holds buffer_length (c ∷ []) es (buffers_of b) h g in
    record { shown = ap edit_line e; holds = rw (step_buffers c b) m }
command_goes (top k p) es b h f =
    let r = reads buffer_length es (buffers_of b) h in
    record { shown = rw (read_not_old (book_of b) (is_book_lem buffer_length es (buffers_of b) h), r); holds = h }
command_goes bad es b h f = record { shown = refl; holds = h }

pub line_goes : (line : List ℕ) (es : List Entry) (b : Bench) → Holds buffer_length es (buffers_of b)
    → Goes (command_of line) es b
line_goes line es b h = command_goes (command_of line) es b h (line_fits line)

-- a list of lines
lines-shown : (ls : List (List ℕ)) (es : List Entry) (b : Bench) → Holds buffer_length es (buffers_of b)
    → shown_for ls b ≡ output_of es ls
lines-shown [] es b h = refl
lines-shown (l ∷ ls) es b h =
    let g = line_goes l es b h in
    let ih = lines-shown ls (held_after (command_of l) es) (left_by (command_of l) b) g.holds in
    rw (g.shown, ih)

lines_hold :
    (ls : List (List ℕ)) (es : List Entry) (b : Bench) → Holds buffer_length es (buffers_of b)
    → Holds buffer_length (held_for ls es) (buffers_of (left_for ls b))
lines_hold [] es b h = h
lines_hold (l ∷ ls) es b h = lines_hold ls (held_after (command_of l) es) (left_by (command_of l) b)
    (line_goes l es b h).holds

pub holds-stands : {L : ℕ} (es : List Entry) (b : Bench) → Holds L es (buffers_of b) → BookStands es b
holds-stands es b h = rw h.front (take-append_seam (book_image es) h.rest)

pub start_bench_lem :
    (a b : List ℕ) → length a ≡ buffer_length → length b ≡ buffer_length
    → Holds buffer_length [] (buffers_of (start_bench a b))
start_bench_lem a b p q = start_holds buffer_length a b p q (omega arith)

pub lines_say : LinesSay
lines_say ls a b p q =
    let h = start_bench_lem a b p q in
    record {
      printed = lines-shown ls [] (start_bench a b) h;
      stands = holds-stands (held_for ls []) (left_for ls (start_bench a b)) (lines_hold ls [] (start_bench a b) h);
    }

-- a result that is not refused for another reason is a valid list, whose image is at most 55,559 bytes
other_number : {n : ℕ} → ◌≡◌ {A = Answer WrittenCounts} (refused n) (refused 7) → (n ≡ 7 → ⊥) → ⊥
other_number e h = h (cc)

not_refused : {x : WrittenCounts} → ◌≡◌ {A = Answer WrittenCounts} (given x) (refused 7) → ⊥
not_refused e = let z : ◌≡◌ {A = ℕ} 0 1 = cc in omega arith

long_enough : (es : List Entry) → valid es ≡ true → ltb buffer_length (length (book_image es)) ≡ false
long_enough es v = le-ltb buffer_length (length (book_image es)) (omega (arith, book_length_lem today es v))

pub never_seven_lem : NeverSeven
unfolding ledger_answer
never_seven_lem (set_name w s) es v f e =
    by_test (is_name w)
    (λ t.
    by_test (not (holds w es) && leb max_entries (length es)) (λ u. other_number (rw (t, u) at e) (λ z. omega arith))
    (λ u. not_refused (rw (t, u, long_enough (with (entry w s) es) (valid-with (entry w s) es v t f u)) at e)))
    (λ t. other_number (rw t at e) (λ z. omega arith))
never_seven_lem (withdraw_name w) es v f e =
    by_test (is_name w)
    (λ t.
    by_test (holds w es) (λ u. not_refused (rw (t, u, long_enough (without w es) (valid-without w es v)) at e))
    (λ u. other_number (rw (t, u) at e) (λ z. omega arith)))
    (λ t. other_number (rw t at e) (λ z. omega arith))

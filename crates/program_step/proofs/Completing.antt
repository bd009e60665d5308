-- A completion's answer as printed lines: those of `top` on the book.
use Prim.Native.Nat.{◌*◌, ◌≤◌, ℕ}
use mathlib.Core.Path.{◌≡◌, ap}
use mathlib.Core.Bool.{◌||◌, false, true}
use mathlib.Core.List.{List, ◌++◌}
use lib.Dec.{ltb}
use lib.ListN.{drop, get_or, length}
use native.Mathlib.Omega.{arith}
use borrow.Author.Tests.{le-ltb}
use Rattle.octets.specs.Decimal.{decimal}
use Rattle.octets.specs.Lists.{all}
use Rattle.octets.specs.Octets.{overwrite}
use Rattle.octets.specs.Text.{line_feed, text}
use Rattle.octets.proofs.Lists.{all-at, all_imp, all_in, get_in}
use Rattle.octets.proofs.Order.{begins-append}
use Rattle.octets.proofs.Tests.{and_true_both, by_test}
use Rattle.octets_laws.specs.Printed.{Printed}
use Rattle.octets_laws.proofs.Printed.{put_append}
use Rattle.entries.specs.Completion.{completion, max_count}
use Rattle.entries.specs.Entries.{Entry, is_entry, no_entry, valid}
use Rattle.entries.specs.Names.{is_name, is_prefix, is_score}
use Rattle.entries.proofs.BestList.{best_list_lem}
use Rattle.entries.proofs.Valid.{valid-all, valid_of}
use Rattle.answer.specs.Answers.{counts, entries_bytes, given, none_offered, refused, writing}
use Rattle.book.specs.Book.{in_book, is_book}
use Rattle.book.specs.Checks.{is_old}
use Rattle.book.proofs.Checks.{read_not_old}
use Rattle.completion.specs.Complete.{Completed, bad_count, complete_book, complete_from, entry_room, offered_as}
use Rattle.answer.specs.Reports.{offered_of}
use Rattle.completion.specs.Machine.{machine, most_looks}
use Rattle.completion.proofs.Limit.{count_within, looks_within}
use Rattle.sheet.specs.Sheet.{sheet_from}
use Rattle.sheet.proofs.Reading.{sheet_from_of}
use Rattle.book.proofs.Reading.{valid_in}
use Rattle.program.specs.Program.{refused_line, top_lines}
use Rattle.program_print.specs.Printing.{Laid, offered_lines}
use Rattle.program_step.specs.Step.{Printable, answer_lines, answer_room}
use Rattle.program.specs.Console.{top_of}
use Rattle.std.proofs.Common.{Err, Ok, Result}
use Rattle.answer.specs.Reports.{number_of}
use Rattle.answer.specs.declared.Offered.{Offered}
use Rattle.answer.specs.declared.Refusal.{Refusal}

-- the lines of what was offered
pub offered_lines_lem :
    (bytes : List ℕ) (c : Offered) {out : List ℕ} {m : ℕ} {left : List ℕ} {e : ℕ} {mid : List ℕ}
    → Printed out 0 (offered_lines (sheet_from c.offered bytes)) e mid
    → Printed mid e (text "looks " ++ decimal c.looks ++ line_feed) m left → Printed out 0 (answer_lines (Ok c) bytes) m left
unfolding top_lines
offered_lines_lem bytes c p q = put_append p q

-- what was offered can be printed
pub offered_printable :
    {r : Result Offered Refusal} {c : Offered} (bytes : List ℕ) → r ≡ Ok c → Printable r bytes
    → Laid c.offered bytes × (c.looks ≤ most_looks max_count)
offered_printable bytes e p = rw e at p

-- the entries of a completion are allowed, and at most k
completion_sound : (es : List Entry) (p : List ℕ) (k : ℕ) → valid es ≡ true → all is_entry (completion es p k) ≡ true
completion_sound es p k v =
    let l = completion es p k in
    let b = (best_list_lem es p k (valid_of es v).order).may in
    all-at is_entry no_entry l (λ i h. all_in is_entry (get_or l i no_entry) es (valid-all es v)
    (b.held (get_or l i no_entry) (get_in no_entry l i h)))

-- a refused completion
refused-lines :
    (c : Result Offered Refusal) (bytes : List ℕ) (n : ℕ) → offered_of c ≡ refused n → Printable c bytes
    × (answer_lines c bytes ≡ refused_line n)
refused-lines (Err r) bytes n e = let z : number_of r ≡ n = cc in (tt, ap refused_line z)
refused-lines (Ok c) bytes n e = cc

-- an answered one: its bytes are read back as the entries offered
given_lines :
    (c : Result Offered Refusal) (l : List Entry) (looks : ℕ) (rest : List ℕ)
    → offered_of c ≡ given (offered_as l looks) → all is_entry l ≡ true
    → length l ≤ max_count → looks ≤ most_looks max_count → Printable c (entries_bytes l ++ rest)
    × (answer_lines c (entries_bytes l ++ rest) ≡ top_lines l looks)
given_lines (Err r) l looks rest e s f g = cc
given_lines (Ok c) l looks rest e s f g =
    let m = c.offered in
    let x : m ≡ length l = ap (λ o. (counts none_offered o).offered) e in
    let y : c.looks ≡ looks = ap (λ o. (counts none_offered o).looks) e in
    let q : sheet_from (length l) (entries_bytes l
    ++ rest) ≡ l = sheet_from_of l rest (all_imp is_entry (λ f. is_score f.score) score_of_lem l s) in
    let r : sheet_from m (entries_bytes l ++ rest) ≡ l = rw x q in (
      (record { few = omega arith; sound = rw r s; stands = rw r (begins-append (entries_bytes l) rest) }, omega arith),
      rw (r, y),
    )
  where
    score_of_lem : (e : Entry) → is_entry e ≡ true → is_score e.score ≡ true
    score_of_lem e h = (and_true_both (is_name e.name) (is_score e.score) h).1

-- whole: with room for every answer, 7 does not apply
module _ (book p dst : List ℕ) (k : ℕ) (room : length dst ≡ answer_room) {c : Result Offered Refusal} {left : List ℕ}
    (done : Completed (complete_book book p k dst k) c left)
  where
    abbrev l : List Entry
    l = completion (in_book book) p k

    room_of : k ≤ max_count → (ltb (length dst) (entry_room * k) || ltb k k) ≡ false
    room_of m = rw (le-ltb (length dst) (entry_room * k) (omega arith), le-ltb k k (omega arith))

    shown : is_book book ≡ true → is_prefix p ≡ true → bad_count max_count k ≡ false → Printable c left
        × (answer_lines c left ≡ top_of book k p)
    unfolding complete_from writing top_of
    shown t u w =
        let n = count_within max_count k w in
        let v = valid_in book t in
        let o = read_not_old book t in
        let x : offered_of c ≡ given (offered_as l (machine (in_book book) p k).looks) = rw (
          o,
          t,
          u,
          w,
          room_of n.1,
        ) at done.answer in
        let y : left ≡ overwrite dst (entries_bytes l) = rw (o, t, u, w, room_of n.1) at done.left in
        let few = (best_list_lem (in_book book) p k (valid_of (in_book book) v).order).may.at_most in
        let g =
        given_lines c l (machine (in_book book) p k).looks (drop (length (entries_bytes l)) dst) x
        (completion_sound (in_book book) p k v)
        (omega arith)
        (looks_within max_count (in_book book) p k w)
        in
        rw (o, t, u, w, y) g

    pub top-shown : Printable c left × (answer_lines c left ≡ top_of book k p)
    unfolding complete_from writing top_of
    top-shown =
        by_test (is_book book)
        (λ t.
        let o = read_not_old book t in
        by_test (is_prefix p)
        (λ u.
        by_test (bad_count max_count k)
        (λ w. rw (o, t, u, w) (refused-lines c left 3 (rw (o, t, u, w) at done.answer)))
        (λ w. shown t u w))
        (λ u. rw (o, t, u) (refused-lines c left 2 (rw (o, t, u) at done.answer))))
        (λ t.
        by_test (is_old book)
        (λ o. rw o (refused-lines c left 10 (rw o at done.answer)))
        (λ o. rw (o, t) (refused-lines c left 1 (rw (o, t) at done.answer))))

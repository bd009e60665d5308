-- Request d for any limit: counts within two limits are answered alike, and a limit's looks are its most.
use Prim.Native.Nat.{◌*◌, ◌≤◌, ℕ}
use mathlib.Core.Path.{◌≡◌, ap, refl}
use mathlib.Core.Logic.{inl, inr}
use mathlib.Core.Bool.{◌||◌, not, true}
use mathlib.Core.List.{List, [], ◌++◌, ◌∷◌, append-nil}
use mathlib.Core.Option.{some}
use lib.Dec.{ltb}
use lib.ListN.{length}
use native.Mathlib.Omega.{arith}
use Rattle.entries.specs.Completion.{completion, max_count, range_start}
use Rattle.entries.specs.Entries.{valid}
use Rattle.entries.specs.Names.{allowed_bytes, is_name, is_prefix, is_score}
use Rattle.answer.specs.Answers.{Check, OfferedCounts, ◌when◌, given, writing}
use Rattle.answer.proofs.Answers.{clear, given_is}
use Rattle.frame.proofs.Frame.{read_of}
use Rattle.book.specs.Book.{book_image, in_book, read_book}
use Rattle.book.specs.Checks.{book_checks}
use Rattle.book.specs.Shown.{alternating, spare}
use Rattle.book.proofs.Reading.{book_exact}
use Rattle.completion.specs.Complete.{bad_count, complete_book_within, complete_from, entry_room, offered_as}
use Rattle.completion.specs.Machine.{machine, most_looks, offering, open_range, others, parts}
use Rattle.completion.proofs.Limit.{looks_within, same_count}
use Rattle.trie.specs.Calls.{complete_trie_within}
use Rattle.ledger.proofs.Demand.{offers_best_lem}
use Rattle.promises.specs.Limit.{AsUnderSixteen, MostLooks, SameWithin}

-- the limit stands in the check for 3 alone, which a count within both limits passes under both or under neither
pub same_within_lem : (limit limit' : ℕ) → SameWithin limit limit'
unfolding complete_from complete_trie_within
same_within_lem limit limit' =
    record {
      from_book = λ book p k dst ranges h h'. rw (same_count limit limit' k h h');
      from_trie = λ trie p k dst h h'. rw (same_count limit limit' k h h');
      printed_by_top = λ k p es h h'. rw (same_count limit limit' k h h');
    }

pub as_under_sixteen_lem : AsUnderSixteen
as_under_sixteen_lem =
    let same = same_within_lem max_count 16 in
    record {
      from_book = λ book p k dst ranges h. same.from_book book p k dst ranges h (omega arith);
      from_trie = λ trie p k dst h. same.from_trie trie p k dst h (omega arith);
      printed_by_top = λ k p es h. same.printed_by_top k p es h (omega arith);
    }

-- an answer was not refused with 3, so its looks are few
no_more_lem :
    (limit : ℕ) (book p : List ℕ) (k : ℕ) (dst : List ℕ) (ranges : ℕ) (c : OfferedCounts)
    → (complete_book_within limit book p k dst ranges).answer ≡ given c → c.looks ≤ most_looks limit
unfolding complete_from writing
no_more_lem limit book p k dst ranges c h =
    let es = in_book book in
    let checks : List Check =
    book_checks (book ∷ [])
    ++ (2 when not (is_prefix p)
    ∷ 3 when bad_count limit k
    ∷ 7 when (ltb (length dst) (entry_room * k) || ltb ranges k)
    ∷ []) in
    let counts = offered_as (completion es p k) (machine es p k).looks in
    let few = clear checks counts c h (3 when bad_count limit k) (inr (inr (inr (inl refl)))) in
    rw (ap (λ o. o.looks) (given_is checks counts c h)) at (looks_within limit es p k few)

-- 19 names in which each of the nine best has others left and right of it
abbrev busiest : List ℕ
busiest = book_image alternating

allowed : valid alternating ≡ true
unfolding valid is_name is_prefix allowed_bytes is_score
allowed = refl

busiest_read : read_book busiest ≡ some alternating
busiest_read = rw (append-nil busiest) at (read_of read_book book_image book_exact alternating [] allowed)

looks_taken : (machine alternating [] max_count).looks ≡ 17
unfolding machine range_start open_range parts others offering
looks_taken = refl

pub most_looks_lem : MostLooks max_count 17
unfolding is_prefix allowed_bytes
most_looks_lem =
    let dst = spare (entry_room * max_count) in
    let offers = (offers_best_lem alternating busiest busiest_read allowed).offers in
    record {
      no_more = no_more_lem max_count;
      book = busiest;
      k = max_count;
      dst = dst;
      counts = offered_as (completion alternating [] max_count) (machine alternating [] max_count).looks;
      answered = ap (λ o. o.answer)
          (offers [] max_count dst max_count refl (omega arith) (omega arith) (omega arith) (omega arith));
      as_many = looks_taken;
    }

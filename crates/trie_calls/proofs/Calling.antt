-- The refusals of completion from a trie in the table's order, and its answer.
use Prim.Native.Nat.{◌*◌, ◌<◌, ◌≤◌, ℕ}
use mathlib.Core.Path.{◌≡◌}
use mathlib.Core.Bool.{false, true}
use mathlib.Core.List.{List}
use Rattle.std.specs.Prelude.{Err, Ok}
use lib.Dec.{ltb}
use lib.ListN.{length}
use borrow.Author.Tests.{eq-eqb, le-ltb, lt-ltb, ne_eqb}
use Rattle.entries.specs.Completion.{completion, max_count}
use Rattle.entries.specs.Names.{is_prefix}
use Rattle.answer.specs.Answers.{writing}
use Rattle.completion.specs.Complete.{Completed, bad_count, entry_room}
use Rattle.answer.specs.declared.Offered.{Offered}
use Rattle.answer.specs.declared.Refusal.TheVariants as refusal
use Rattle.trie.specs.Calls.{complete_trie, complete_trie_within}
use Rattle.trie_find.specs.Offers.{OffersWritten, in_trie, is_trie}

module _ (bs p : List ℕ) (k : ℕ) (dst : List ℕ) where
  pub no_trie : is_trie bs ≡ false → Completed (complete_trie bs p k dst) (Err refusal.NotLaidOut) dst
  unfolding complete_trie_within writing
  no_trie t = record { answer = rw t; left = rw t }

  module _ (t : is_trie bs ≡ true) where
    pub no_prefix : is_prefix p ≡ false → Completed (complete_trie bs p k dst) (Err refusal.NotAllowed) dst
    unfolding complete_trie_within writing
    no_prefix u = record { answer = rw (t, u); left = rw (t, u) }

    module _ (u : is_prefix p ≡ true) where
      pub no_count :
          bad_count max_count k ≡ true → Completed (complete_trie bs p k dst) (Err refusal.CountOutOfRange) dst
      unfolding complete_trie_within writing
      no_count v = record { answer = rw (t, u, v); left = rw (t, u, v) }

      module _ (v : bad_count max_count k ≡ false) where
        pub no_room_lem : ltb (length dst) (entry_room * k) ≡ true
            → Completed (complete_trie bs p k dst) (Err refusal.TooShort) dst
        unfolding complete_trie_within writing
        no_room_lem w = record { answer = rw (t, u, v, w); left = rw (t, u, v, w) }

        pub offers_all :
            ltb (length dst) (entry_room * k) ≡ false → (r : Offered) (after : List ℕ)
            → OffersWritten (completion (in_trie bs) p k) dst r after
            → Completed (complete_trie bs p k dst) (Ok r) after
        unfolding complete_trie_within writing
        offers_all w r after o = record { answer = rw (t, u, v, w) o.answer; left = rw (t, u, v, w) o.written }

-- k from 1 to the limit
pub count_zero : (k : ℕ) → k ≡ 0 → bad_count max_count k ≡ true
count_zero k h = rw (eq-eqb k 0 h)

pub count_over : (k : ℕ) → (k ≡ 0 → ⊥) → max_count < k → bad_count max_count k ≡ true
count_over k n h = rw (ne_eqb k 0 n) (lt-ltb max_count k h)

pub count_good : (k : ℕ) → (k ≡ 0 → ⊥) → k ≤ max_count → bad_count max_count k ≡ false
count_good k n h = rw (ne_eqb k 0 n) (le-ltb max_count k h)

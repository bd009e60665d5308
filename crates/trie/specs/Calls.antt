-- The calls on tries (document 01, "Trie image", "Completion"), each as a function from all that it is given and lent.
use Rattle.std.specs.Prelude.{◌*◌, ℕ, not, List, [], ◌∷◌, ltb, length}
use Rattle.entries.specs.Completion.{completion, max_count}
use Rattle.entries.specs.Names.{is_prefix}
use Rattle.answer.specs.Answers.{OfferedCounts, Outcome, WrittenCounts, ◌when◌, entries_bytes, writing}
use Rattle.frame.specs.Frame.{entries_of, is_read}
use Rattle.book.specs.Checks.{from_book}
use Rattle.completion.specs.Complete.{bad_count, entry_room, offered_as}
use Rattle.trie.specs.Reading.{read_trie}
use Rattle.trie.specs.Trie.{trie_image}

-- write the trie of a book's entries
unfoldable pub write_trie : List ℕ → List ℕ → Outcome WrittenCounts
write_trie book dst = from_book trie_image book dst

-- completion from a trie, for counts up to a limit: it takes no ranges and reports looks 0
unfoldable pub complete_trie_within : ℕ → List ℕ → List ℕ → ℕ → List ℕ → Outcome OfferedCounts
complete_trie_within limit trie p k dst =
    let l = completion (entries_of (read_trie trie)) p k in
    writing
    (1 when not (is_read (read_trie trie))
    ∷ 2 when not (is_prefix p)
    ∷ 3 when bad_count limit k
    ∷ 7 when ltb (length dst) (entry_room * k)
    ∷ [])
    (offered_as l 0)
    (entries_bytes l)
    dst

-- completion from a trie, as the call has it
abbrev pub complete_trie : List ℕ → List ℕ → ℕ → List ℕ → Outcome OfferedCounts
complete_trie trie p k dst = complete_trie_within max_count trie p k dst

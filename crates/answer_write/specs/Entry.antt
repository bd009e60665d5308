-- One answer entry, where the destination has room.
use Rattle.std.specs.Prelude.{ℕ, List, [], ◌∷◌}
use Rattle.entries.specs.Entries.{Entry}
use Rattle.answer.specs.Answers.{Outcome, WrittenCounts, entry_bytes, writing_image}

-- one answer entry written, where the destination has room
abbrev pub one_entry : Entry → List ℕ → Outcome WrittenCounts
one_entry e dst = writing_image [] (e ∷ []) (entry_bytes e) dst

-- An answer as C gets it: the number returned, and the values told through pointers, all of them 0 with a refusal.
use Rattle.std.specs.Prelude.{ℕ, ◌≡◌}
use Rattle.std.proofs.Math.Option.{Option, none, some}
use Rattle.octets.specs.Lists.{if◌then◌otherwise◌}
use Rattle.answer.specs.Answers.{Answer, FoundCounts, OfferedCounts, PlayedCounts, SpanCounts, WrittenCounts, counts}
use Rattle.answer.specs.Answers.{none_found, none_offered, none_played, none_span, none_written, number}

-- of a call that writes, and of the check: the entries and bytes
pub record WrittenTold (a : Answer WrittenCounts) (r e b : ℕ) : Type 0 where
  pub returned : r ≡ number a
  pub entries : e ≡ (counts none_written a).entries
  pub bytes : b ≡ (counts none_written a).bytes

-- of a completion: the entries offered, the bytes written and the looks
pub record OfferedTold (a : Answer OfferedCounts) (r n b l : ℕ) : Type 0 where
  pub returned : r ≡ number a
  pub offered : n ≡ (counts none_offered a).offered
  pub bytes : b ≡ (counts none_offered a).bytes
  pub looks : l ≡ (counts none_offered a).looks

-- of a key: the rows
pub record RowsTold (a : Answer ℕ) (r k : ℕ) : Type 0 where
  pub returned : r ≡ number a
  pub rows : k ≡ counts 0 a

-- of finding: whether the name is there, 1 or 0, and its position and score, zeros where it is not
abbrev pub is_there : Option FoundCounts → ℕ
is_there none = 0
is_there (some p) = 1

abbrev pub or_zeros : Option FoundCounts → FoundCounts
or_zeros none = none_found
or_zeros (some p) = p

pub record FoundTold (a : Answer (Option FoundCounts)) (r f i s : ℕ) : Type 0 where
  pub returned : r ≡ number a
  pub found : f ≡ is_there (counts none a)
  pub position : i ≡ (or_zeros (counts none a)).position
  pub score : s ≡ (or_zeros (counts none a)).score

-- of a prefix range: the first position and how many there are
pub record SpanTold (a : Answer SpanCounts) (r i k : ℕ) : Type 0 where
  pub returned : r ≡ number a
  pub first : i ≡ (counts none_span a).first
  pub count : k ≡ (counts none_span a).count

-- of the run of a history: the calls made, and whether the second buffer holds the book, 1 or 0
pub record PlayedTold (a : Answer PlayedCounts) (r n t : ℕ) : Type 0 where
  pub returned : r ≡ number a
  pub calls : n ≡ (counts none_played a).calls
  pub turned : t ≡ (if (counts none_played a).turned then 1 otherwise 0)

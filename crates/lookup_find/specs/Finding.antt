-- What the search for a name tells of finding it.
use Rattle.std.specs.Prelude.{ℕ, List}
use Rattle.std.proofs.Math.Option.{Option, none, some}
use Rattle.octets.specs.Lists.{if◌then◌otherwise◌}
use Rattle.answer.specs.Answers.{FoundCounts}
use Rattle.book_laws.specs.Check.{score_at}
use Rattle.book_seek.specs.declared.Seek.{Seek}

-- finding: the place with the score that stands there, or none
abbrev pub found_at : List ℕ → Seek → Option FoundCounts
found_at book s = if s.same then some (record { position = s.place; score = score_at book s.place }) otherwise none

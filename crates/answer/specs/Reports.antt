-- The answers of the calls, each read as document 01's: the refusal's number, or what the call gives.
use Rattle.std.specs.Prelude.{ℕ, ◌≡◌, Err, List, None, Ok, Option, Result, Some}
use Rattle.std.proofs.Math.Option as maybe
use Rattle.answer.specs.Answers.{Answer, FoundCounts, OfferedCounts, Outcome, PlayedCounts, SpanCounts}
use Rattle.answer.specs.Answers.{WrittenCounts, given, refused}
use Rattle.answer.specs.declared.Found.{Found}
use Rattle.answer.specs.declared.Offered.{Offered}
use Rattle.answer.specs.declared.Played.{Played}
use Rattle.answer.specs.declared.Refusal.{Refusal}
use Rattle.answer.specs.declared.Refusal.TheVariants as refusal
use Rattle.answer.specs.declared.Size.{Size}
use Rattle.answer.specs.declared.Span.{Span}

-- the numbers of the table in document 01, "When a call declines", and 10
abbrev pub number_of : Refusal → ℕ
number_of refusal.NotLaidOut = 1
number_of refusal.NotAllowed = 2
number_of refusal.CountOutOfRange = 3
number_of refusal.NotHeld = 4
number_of refusal.Full = 5
number_of refusal.NoSuchPlace = 6
number_of refusal.TooShort = 7
number_of refusal.NoSuchKey = 8
number_of refusal.TextFull = 9
number_of refusal.OldVersion = 10

-- a refusal by its number, or what is read of the answer given
abbrev pub answer_of : {T A : Type 0} → (T → A) → Result T Refusal → Answer A
answer_of read (Err r) = refused (number_of r)
answer_of read (Ok x) = given (read x)

-- a call that writes a book, a trie, a sheet, a page or an entry; and the check of a book
abbrev pub written_of : Result Size Refusal → Answer WrittenCounts
written_of r = answer_of (λ s. record { entries = s.entries; bytes = s.bytes }) r

-- it answers r and leaves the destination dest, as its definition says
pub record Answered (o : Outcome WrittenCounts) (r : Result Size Refusal) (dest : List ℕ) : Type 0 where
  pub answer : written_of r ≡ o.answer
  pub left : dest ≡ o.dest

-- finding: plain finding of an absent name is "none", no refusal
abbrev pub finding : Option Found → maybe.Option FoundCounts
finding None = maybe.none
finding (Some f) = maybe.some (record { position = f.position; score = f.score })

abbrev pub found_of : Result (Option Found) Refusal → Answer (maybe.Option FoundCounts)
found_of r = answer_of finding r

-- prefix range
abbrev pub span_of : Result Span Refusal → Answer SpanCounts
span_of r = answer_of (λ s. record { first = s.first; count = s.count }) r

-- a single number: the length of a head name, or the panel's rows after a key
abbrev pub count_of : Result ℕ Refusal → Answer ℕ
count_of r = answer_of (λ k. k) r

-- completion: entries offered, bytes written, looks
abbrev pub offered_of : Result Offered Refusal → Answer OfferedCounts
offered_of r = answer_of (λ c. record { offered = c.offered; bytes = c.bytes; looks = c.looks }) r

-- the run of a history: the calls made, and whether the second buffer holds the book
abbrev pub played_of : Result Played Refusal → Answer PlayedCounts
played_of r = answer_of (λ p. record { calls = p.calls; turned = p.turned }) r

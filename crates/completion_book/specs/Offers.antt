-- A completion from its start to its answer: the machine before the first turn, and what is written once it has run.
use Rattle.std.specs.Prelude.{◌*◌, ◌<◌, ◌≤◌, ℕ, ◌≡◌, ◌||◌, Err, Ok, Result, false, not, true, List, [], ◌++◌, ◌∷◌, map}
use Rattle.std.specs.Prelude.{length, ltb}
use Rattle.octets.specs.Lists.{◌∈◌}
use Rattle.octets.specs.Octets.{overwrite}
use Rattle.entries.specs.Completion.{begun, max_count}
use Rattle.entries.specs.Entries.{Entry, at, names, valid}
use Rattle.entries.specs.Names.{is_prefix}
use Rattle.entries_laws.specs.Place.{place}
use Rattle.answer.specs.Answers.{Check, OfferedCounts, Outcome, ◌when◌, entries_bytes, given, refused, unless}
use Rattle.answer.specs.Reports.{number_of}
use Rattle.answer.specs.declared.Refusal.{Refusal}
use Rattle.book.specs.Book.{records_at, today}
use Rattle.book.specs.Checks.{book_checks}
use Rattle.book_laws.specs.Ahead.{record_at}
use Rattle.book_check.specs.Checked.{Known}
use Rattle.book_check.specs.declared.known.Checked.{Checked}
use Rattle.book_seek.specs.Seek.{Seeking}
use Rattle.book_seek.specs.declared.Seek.{Seek}
use Rattle.book_rows.specs.Rows.{Filled, RowRoom}
use Rattle.completion.specs.Complete.{bad_count, entry_room, offered_as}
use Rattle.completion.specs.Machine.{machine}
use Rattle.completion_turn.specs.declared.Progress.{Progress}
use Rattle.completion_turn.specs.Turns.{so_far}

-- what completion is refused for; `room` is the destination's length, `lent` how many ranges may wait
abbrev pub asked_checks : List ℕ → List ℕ → ℕ → ℕ → ℕ → List Check
asked_checks book p k room lent =
    book_checks (book ∷ [])
    ++ (2 when not (is_prefix p)
    ∷ 3 when bad_count max_count k
    ∷ 7 when (ltb room (entry_room * k) || ltb lent k)
    ∷ [])

-- k open ranges may wait in so many slots
pub record MayWait (k slots : ℕ) : Type 0 where
  pub few : k ≤ max_count
  pub some : 0 < slots
  pub enough : k ≤ slots

-- nothing is refused; what is then known
pub record Asked (book p : List ℕ) (k room lent : ℕ) (c : Checked) : Type 0 where
  pub clear : (a : OfferedCounts) → unless (asked_checks book p k room lent) a ≡ given a
  pub known : Known book p c
  pub waits : MayWait k lent
  pub fits : entry_room * k ≤ room

-- the refusal, whatever would be answered; or none
abbrev pub AskedAs : List ℕ → List ℕ → ℕ → ℕ → ℕ → Result Checked Refusal → Type 0
AskedAs book p k room lent (Err r) =
    (a : OfferedCounts) → unless (asked_checks book p k room lent) a ≡ refused (number_of r)
AskedAs book p k room lent (Ok c) = Asked book p k room lent c

-- a key was sought in the book of these entries, and stands so
pub record Sought (es : List Entry) (s : Seek) : Type 0 where
  pub key : List ℕ
  pub located : Seeking key (records_at today (length es)) (names es) s

-- what is offered by a machine that has run: the machine of the definitions; it knows where the matches of the prefix p
-- begin
pub record Offers (es : List Entry) (p : List ℕ) (k : ℕ) (s : Progress) : Type 0 where
  pub offered : so_far s ≡ (machine es p k).offered
  pub looks : s.looks ≡ (machine es p k).looks
  pub few : s.count ≤ max_count
  pub places : length s.offered ≡ max_count
  pub first : s.first ≡ place false p es
  pub from : s.from ≡ record_at es (place false p es)

-- the same for every prefix that stands so
abbrev pub OffersAll : List Entry → Seek → ℕ → Progress → Type 0
OffersAll es seek k s =
    (p : List ℕ) → Seeking p (records_at today (length es)) (names es) seek → Offers es p k s

-- positions of a book's entries, of names that the prefix p begins, and room for their entries; it is known where these
-- names begin
pub record Writable (es : List Entry) (p dst : List ℕ) (s : Progress) : Type 0 where
  pub inside : (i : ℕ) → i ∈ so_far s → i < length es
  pub matching : (i : ℕ) → i ∈ so_far s → begun p (at es i) ≡ true
  pub first : s.first ≡ place false p es
  pub from : s.from ≡ record_at es s.first
  pub few : s.count ≤ max_count
  pub room : entry_room * s.count ≤ length dst

-- the positions is of entries such as a book may have, their names in rows, and room for their entries
pub record Written (es : List Entry) (is rows lens dst : List ℕ) : Type 0 where
  pub entries : valid es ≡ true
  pub inside : (i : ℕ) → i ∈ is → i < length es
  pub filled : Filled es is rows lens
  pub row_room : RowRoom (length is) (length rows) (length lens)
  pub few : length is ≤ max_count
  pub room : entry_room * length is ≤ length dst

-- the entries offered
abbrev pub entries_at : List Entry → List ℕ → List Entry
entries_at es is = map (at es) is

-- the answer, and the destination afterwards, of a machine that has run
abbrev pub outcome_of : List Entry → Progress → List ℕ → Outcome OfferedCounts
outcome_of es s dst =
    let l = entries_at es (so_far s) in
    record { answer = given (offered_as l s.looks); dest = overwrite dst (entries_bytes l) }

-- Answers and refusals (document 01, "When a call declines"), and the bytes of one answer entry.
use Rattle.std.specs.Prelude.{ℕ, Bool, false, not, List, [], ◌++◌, ◌∷◌, map, ltb, length}
use Rattle.std.proofs.Math.Option.{Option}
use Rattle.octets.specs.Lists.{concat_map, if◌then◌otherwise◌, keep}
use Rattle.octets.specs.Octets.{be, overwrite}
use Rattle.entries.specs.Entries.{Entry}
use Rattle.frame.specs.Frame.{entries_of, is_read}

-- A call's answer: a refusal by its number, or what the call gives.
pub data Answer (A : Type 0) : Type 0 where
  refused : ℕ → Answer A
  given : A → Answer A

-- the number returned: the refusal's, 0 with an answer
abbrev pub number : {A : Type 0} → Answer A → ℕ
number (refused n) = n
number (given a) = 0

-- the counts returned; `zeros` are those of a refusal
abbrev pub counts : {A : Type 0} → A → Answer A → A
counts zeros (refused n) = zeros
counts zeros (given a) = a

-- what a call that writes a book, a trie, a sheet, a page or an entry reports: the entries in it and its bytes; the
-- check reports the same of the book that it was given
pub record WrittenCounts : Type 0 where
  pub entries : ℕ
  pub bytes : ℕ

-- what completion reports: entries offered, bytes written, looks
pub record OfferedCounts : Type 0 where
  pub offered : ℕ
  pub bytes : ℕ
  pub looks : ℕ

-- what finding reports of a name that is held
pub record FoundCounts : Type 0 where
  pub position : ℕ
  pub score : ℕ

-- what prefix range reports
pub record SpanCounts : Type 0 where
  pub first : ℕ
  pub count : ℕ

-- what the run of a history reports: the calls made, and whether the second buffer holds the book
pub record PlayedCounts : Type 0 where
  pub calls : ℕ
  pub turned : Bool

-- a refusal's counts are all 0
abbrev pub none_written : WrittenCounts
none_written = record { entries = 0; bytes = 0 }

abbrev pub none_offered : OfferedCounts
none_offered = record { offered = 0; bytes = 0; looks = 0 }

abbrev pub none_found : FoundCounts
none_found = record { position = 0; score = 0 }

abbrev pub none_span : SpanCounts
none_span = record { first = 0; count = 0 }

abbrev pub none_played : PlayedCounts
none_played = record { calls = 0; turned = false }

-- A check: a cause of refusal, and its number.
pub record Check : Type 0 where
  pub number : ℕ
  pub applies : Bool

infix 68 ◌when◌
abbrev pub ◌when◌ : ℕ → Bool → Check
n when b = record { number = n; applies = b }

-- the number of the first check that applies, else the answer
abbrev pub unless : {A : Type 0} → List Check → A → Answer A
unless [] a = given a
unless (c ∷ cs) a = if c.applies then refused c.number otherwise unless cs a

-- the numbers of those that apply
abbrev pub applying : List Check → List ℕ
applying cs = map (λ c. c.number) (keep (λ c. c.applies) cs)

-- the first where the answer is a refusal, else the second
abbrev pub on_answer : {A B : Type 0} → Answer A → B → B → B
on_answer (refused n) x y = x
on_answer (given a) x y = y

-- an answer, and the destination afterwards
pub record Outcome (A : Type 0) : Type 0 where
  pub answer : Answer A
  pub dest : List ℕ

-- A call that writes bytes at the front of its destination, which a refusal leaves as it was.
unfoldable pub writing : {A : Type 0} → List Check → A → List ℕ → List ℕ → Outcome A
writing cs a bytes dst =
    record { answer = unless cs a; dest = on_answer (unless cs a) dst (overwrite dst bytes) }

-- 7: the destination is shorter than the bytes needed
abbrev pub too_short : List ℕ → List ℕ → Bool
too_short dst bytes = ltb (length dst) (length bytes)

-- A call that writes the image of entries, after its own checks, and reports both.
unfoldable pub writing_image : List Check → List Entry → List ℕ → List ℕ → Outcome WrittenCounts
writing_image cs es image dst =
    writing (cs ++ (7 when too_short dst image ∷ [])) (record { entries = length es; bytes = length image }) image dst

-- A call that writes, from an image that `read` reads, the `image` of its entries: 1 where it is not read, 7 where the
-- destination is too short.
abbrev pub converting : (List ℕ → Option (List Entry)) → (List Entry → List ℕ) → List ℕ → List ℕ → Outcome WrittenCounts
converting read image src dst =
    let es = entries_of (read src) in writing_image (1 when not (is_read (read src)) ∷ []) es (image es) dst

-- one answer entry: length byte, name, 4-byte score
unfoldable pub entry_bytes : Entry → List ℕ
entry_bytes e = length e.name ∷ e.name ++ be 4 e.score

-- entries one after the other: the answer of a completion, and a sheet's body
unfoldable pub entries_bytes : List Entry → List ℕ
entries_bytes es = concat_map entry_bytes es

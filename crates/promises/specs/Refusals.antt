-- Document 01's table, "When a call declines", and what document 02 adds to it: the causes, each with its number, the
-- order in which they are checked, and what it means that a call declines by them.
use Rattle.std.specs.Prelude.{◌≤◌, suc, ℕ, ◌≡◌, ◌&&◌, ◌||◌, not, List, [], ◌∷◌, eqb, leb, drop, length}
use Rattle.octets.specs.Lists.{◌∈◌, if◌then◌otherwise◌}
use Rattle.entries.specs.Completion.{max_count}
use Rattle.entries.specs.Entries.{Entry, holds, max_entries}
use Rattle.entries.specs.Names.{is_name, is_prefix}
use Rattle.answer.specs.Answers.{Answer, Check, OfferedCounts, Outcome, WrittenCounts, ◌when◌, applying, given, refused}
use Rattle.answer.specs.Answers.{too_short}
use Rattle.book.specs.Book.{is_book}
use Rattle.book.specs.Checks.{is_old}
use Rattle.lookup.specs.Lookups.{has_head}
use Rattle.completion.specs.Complete.{bad_count}

-- a book whose byte 0 is 21 (document 02, request f); one of two is so
abbrev pub old_book : List ℕ → Check
old_book book = 10 when is_old book

abbrev pub old_books : List ℕ → List ℕ → Check
old_books first second = 10 when (is_old first || is_old second)

-- the image is not laid out as a book's, or cut off by its buffer; one of two is so
abbrev pub no_book : List ℕ → Check
no_book book = 1 when not (is_book book)

abbrev pub no_books : List ℕ → List ℕ → Check
no_books first second = 1 when (not (is_book first) || not (is_book second))

-- the name, or the prefix, is not allowed
abbrev pub bad_name : List ℕ → Check
bad_name w = 2 when not (is_name w)

abbrev pub bad_prefix : List ℕ → Check
bad_prefix p = 2 when not (is_prefix p)

-- k is 0 or over the limit
abbrev pub bad_k : ℕ → Check
bad_k k = 3 when bad_count max_count k

-- the name is not in the book
abbrev pub absent : List ℕ → List Entry → Check
absent w es = 4 when not (holds w es)

-- a new name with 1,024 held
abbrev pub full : List ℕ → List Entry → Check
full w es = 5 when (not (holds w es) && leb max_entries (length es))

-- position n or more, or a bucket that the book lacks: any but bucket 0 of a book with entries (document 02, request f)
abbrev pub no_position : ℕ → List Entry → Check
no_position i es = 6 when leb (length es) i

abbrev pub no_bucket : ℕ → List Entry → Check
no_bucket j es = 6 when not (has_head es j)

-- the destination is shorter than the bytes needed
abbrev pub no_room : List ℕ → List ℕ → Check
no_room dst bytes = 7 when too_short dst bytes

-- The order of the checks. Document 01: the smallest number that applies is given. Document 02, request f: 10 is
-- checked before 1.
abbrev pub order : List ℕ
order = 10 ∷ 1 ∷ 2 ∷ 3 ∷ 4 ∷ 5 ∷ 6 ∷ 7 ∷ 8 ∷ 9 ∷ []

-- the place of a number in a list, from 0, its length if it is not there; in that order it is the number's turn
abbrev pub place_of : List ℕ → ℕ → ℕ
place_of [] n = 0
place_of (m ∷ ms) n = if eqb n m then 0 otherwise suc (place_of ms n)

abbrev pub turn : ℕ → ℕ
turn n = place_of order n

-- A call declines by these causes: of the numbers that apply the first in the order is given, and no other; an answer
-- where none applies.
pub record Declines {A : Type 0} (causes : List Check) (a : Answer A) : Type 0 where
  pub first : (n : ℕ) → a ≡ refused n → (n ∈ applying causes) × ((m : ℕ) → m ∈ applying causes → turn n ≤ turn m)
  pub clear : (x : A) → a ≡ given x → applying causes ≡ []

-- A call that writes, as a function of its destination. `bytes` are those that it reports.
pub record Leaves {A : Type 0} (bytes : A → ℕ) (causes : List ℕ → List Check) (call : List ℕ → Outcome A) : Type 0
  where
    pub declines : (dst : List ℕ) → Declines (causes dst) (call dst).answer
    -- a refusal leaves the destination as it was
    pub unchanged : (dst : List ℕ) (n : ℕ) → (call dst).answer ≡ refused n → (call dst).dest ≡ dst
    -- an answer changes nothing behind the bytes that it reports, nor the destination's length
    pub behind :
        (dst : List ℕ) (a : A) → (call dst).answer ≡ given a
        → (drop (bytes a) (call dst).dest ≡ drop (bytes a) dst) × (length (call dst).dest ≡ length dst)

-- a call that writes a book, a trie, a sheet, a page or an entry, and one that completes, with the causes of its
-- refusals
abbrev pub Writes : (List ℕ → List Check) → (List ℕ → Outcome WrittenCounts) → Type 0
Writes causes call = Leaves (λ a. a.bytes) causes call

abbrev pub Offers : (List ℕ → List Check) → (List ℕ → Outcome OfferedCounts) → Type 0
Offers causes call = Leaves (λ a. a.bytes) causes call

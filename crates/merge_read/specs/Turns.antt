-- Two books read side by side: the next entry of each, which of them comes next of both, and what is left behind it.
use Rattle.std.specs.Prelude.{◌+◌, ◌<◌, ◌≤◌, ℕ, ◌≡◌, Bool, false, not, true, List, [], ◌∷◌, eqb, drop, length, take}
use Rattle.std.specs.Prelude.{None, Option, Some}
use Rattle.octets.specs.Lists.{if◌then◌otherwise◌}
use Rattle.octets.specs.Octets.{below}
use Rattle.entries.specs.Entries.{Entry, at, entry, valid}
use Rattle.entries.specs.Names.{longest_name}
use Rattle.book_laws.specs.Cursor.{cursor_of}
use Rattle.book_name.specs.Poised.{Poised}
use Rattle.merge.specs.Joined.{joined}
use Rattle.merge_read.specs.declared.Choice.{Choice}
use Rattle.merge_read.specs.declared.NextInBook.{NextInBook}
use Rattle.merge_read.specs.declared.NextOfBoth.{NextOfBoth}

-- the record of position i begins at index k, where there is one; what it keeps of the name before stands at the front
-- of name
abbrev pub RecordStands : List Entry → ℕ → ℕ → List ℕ → Type 0
RecordStands es k i name = Poised es (cursor_of k i name 0)

-- c is the next of the entries of a book, its name at the front of the 48 bytes in name; no name where no entry is left
pub record Loaded (es : List Entry) (c : NextInBook) (name : List ℕ) : Type 0 where
  pub ok : valid es ≡ true
  pub within : c.index ≤ length es
  pub long : length name ≡ longest_name
  pub small : c.len ≤ longest_name
  pub named : take c.len name ≡ (at es c.index).name
  pub behind : c.index < length es → RecordStands es c.at (c.index + 1) name

-- the entry of the name w comes next, where the other book's next one has the name v: there is one, and v is none or
-- not below w
abbrev pub is_due : List ℕ → List ℕ → Bool
is_due w v = if eqb (length w) 0 then false otherwise if eqb (length v) 0 then true otherwise not (below v w)

-- how far a book goes on
abbrev pub steps : Bool → ℕ
steps due = if due then 1 otherwise 0

-- r is the first book's next entry, of the name w, or the second's, of the name v; its name stands at the front of name
pub record Chosen (first : List Entry) (i : ℕ) (w : List ℕ) (second : List Entry) (j : ℕ) (v : List ℕ) (due : Bool)
    (name : List ℕ) (r : Choice) : Type 0 where
  pub word : take r.len name ≡ (if due then w otherwise v)
  pub long : r.len ≡ length (if due then w otherwise v)
  pub score : r.score ≡ (if due then (at first i).score otherwise (at second j).score)

-- the entries of a book from its next one on
abbrev pub entries_left : List Entry → NextInBook → List Entry
entries_left es c = drop c.index es

-- r has the entry that came next of both books, and the next ones behind it
pub record Took
    (first : List Entry) (x : NextInBook) (a : List ℕ) (second : List Entry) (y : NextInBook) (b name : List ℕ)
    (r : NextOfBoth) : Type 0
  where
    pub of_first : Loaded first r.first a
    pub of_second : Loaded second r.second b
    pub small : r.len ≤ longest_name
    pub next :
        joined (entries_left first x) (entries_left second y) ≡ entry (take r.len name) r.score
        ∷ joined (entries_left first r.first) (entries_left second r.second)

-- none was left, and both books stand where they stood
pub record TookNone
    (first : List Entry) (x : NextInBook) (a : List ℕ) (second : List Entry) (y : NextInBook) (b : List ℕ) : Type 0
  where
    pub of_first : Loaded first x a
    pub of_second : Loaded second y b
    pub none : joined (entries_left first x) (entries_left second y) ≡ []

-- the entry that came next, or none
abbrev pub TookNext :
    List Entry → NextInBook → List ℕ → List Entry → NextInBook → List ℕ → List ℕ → Option NextOfBoth → Type 0
TookNext first x a second y b name None = TookNone first x a second y b
TookNext first x a second y b name (Some r) = Took first x a second y b name r

-- A cursor over records: the record that stands at it, the name before, and what a step gives.
use Rattle.std.specs.Prelude.{◌+◌, ◌≤◌, ℕ, ◌≡◌, Bool, ◌&&◌, true, List, drop, length, take}
use Rattle.octets.specs.Octets.{begins, below}
use Rattle.entries.specs.Names.{is_name, is_prefix, longest_name}
use Rattle.book.specs.Records.{record_length, record_name, record_of}
use Rattle.book_laws.specs.declared.Cursor.{Cursor}

-- Is the record at the front of bs, at position i behind the name prev, one of a book: laid out as it would be written,
-- its name allowed and above the name before?
unfoldable pub record_is : Bool → ℕ → List ℕ → List ℕ → Bool
record_is heads i prev bs =
    let w = record_name heads i prev bs in begins (record_of heads i prev w) bs && (is_name w && below prev w)

-- the cursor at index `at` in front of position i, with the name before it in the first len bytes of name
abbrev pub cursor_of : ℕ → ℕ → List ℕ → ℕ → Cursor
cursor_of at i name len = record { at = at; index = i; name = name; len = len }

-- the name that a cursor holds: the one of the record before it, none at first
abbrev pub name_in : Cursor → List ℕ
name_in c = take c.len c.name

-- a cursor that a step may start from
pub record Sound (s : List ℕ) (c : Cursor) : Type 0 where
  pub allowed : is_prefix (name_in c) ≡ true
  pub small : c.len ≤ longest_name
  pub inside : c.at ≤ length s

-- the cursor d behind the record at c
pub record Next (heads : Bool) (s : List ℕ) (c d : Cursor) : Type 0 where
  pub name : name_in d ≡ record_name heads c.index (name_in c) (drop c.at s)
  pub at : d.at ≡ c.at + record_length heads c.index (drop c.at s)
  pub index : d.index ≡ c.index + 1
  pub small : d.len ≤ longest_name
  pub inside : d.at ≤ length s

-- a step: whether a record of a book stands at a cursor, and the cursor behind it
pub record Step : Type 0 where
  pub ok : Bool
  pub next : Cursor

pub record Stepped (heads : Bool) (s : List ℕ) (c : Cursor) (r : Step) : Type 0 where
  pub ok : r.ok ≡ record_is heads c.index (name_in c) (drop c.at s)
  pub next : r.ok ≡ true → Next heads s c r.next

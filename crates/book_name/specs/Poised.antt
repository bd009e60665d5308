-- A cursor by which the records of a book can be read on: not the whole name before has to be there, only what the next
-- record keeps of it.
use Rattle.std.specs.Prelude.{◌<◌, ◌≤◌, ℕ, ◌≡◌, List, length, take}
use Rattle.octets.specs.Octets.{common}
use Rattle.entries.specs.Entries.{Entry, at}
use Rattle.entries.specs.Names.{longest_name}
use Rattle.book_laws.specs.Ahead.{name_before, record_at}
use Rattle.book_laws.specs.declared.Cursor.{Cursor}

-- how many bytes the record of the entry at position i keeps of the name before
abbrev pub kept_at : List Entry → ℕ → ℕ
kept_at es i = common (name_before es i) (at es i).name

-- the cursor stands at the record of the entry at its index, and its array begins with the bytes that the record keeps
pub record Poised (es : List Entry) (c : Cursor) : Type 0 where
  pub stands : c.at ≡ record_at es c.index
  pub keeps :
      c.index < length es
      → take (kept_at es c.index) c.name ≡ take (kept_at es c.index) (at es c.index).name

-- the cursor stands there, and its array begins with the prefix
pub record Starts (prefix : List ℕ) (index at : ℕ) (c : Cursor) : Type 0 where
  pub position : c.index ≡ index
  pub place : c.at ≡ at
  pub front : length prefix ≤ longest_name → take (length prefix) c.name ≡ prefix

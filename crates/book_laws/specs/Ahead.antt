-- A cursor in a buffer that holds a book.
use Rattle.std.specs.Prelude.{◌+◌, ◌<◌, ◌≤◌, ℕ, ◌≡◌, true, List, [], ◌++◌, drop, length, take}
use Rattle.octets.specs.Octets.{below}
use Rattle.entries.specs.Entries.{Entry, at, names}
use Rattle.entries.specs.Names.{is_prefix, longest_name}
use Rattle.book_laws.specs.Cursor.{name_in}
use Rattle.book.specs.Records.{last_or, records}
use Rattle.book.specs.declared.Layout.{Layout}
use Rattle.book.specs.Book.{records_at, today}
use Rattle.book_laws.specs.declared.Cursor.{Cursor}

-- the cursor stands at the record of the entry at its index
pub record AheadIn (l : Layout) (es : List Entry) (s : List ℕ) (c : Cursor) : Type 0 where
  pub rest : List ℕ
  pub stands : drop c.at s ≡ records l.heads c.index (name_in c) (drop c.index (names es)) ++ rest
  pub above : c.index < length es → below (name_in c) (at es c.index).name ≡ true
  pub allowed : is_prefix (name_in c) ≡ true
  pub small : c.len ≤ longest_name
  pub inside : c.at ≤ length s

-- where the record of the entry at position i begins, and the name before it
abbrev pub record_at_in : Layout → List Entry → ℕ → ℕ
record_at_in l es i = records_at l (length es) + length (records l.heads 0 [] (take i (names es)))

abbrev pub name_before : List Entry → ℕ → List ℕ
name_before es i = last_or [] (take i (names es))

-- the same in a book of today
abbrev pub Ahead : List Entry → List ℕ → Cursor → Type 0
Ahead es s c = AheadIn today es s c

abbrev pub record_at : List Entry → ℕ → ℕ
record_at es i = record_at_in today es i

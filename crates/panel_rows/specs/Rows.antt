-- The rows of a panel as positions in the book.
use Rattle.std.specs.Prelude.{◌<◌, ◌≤◌, ℕ, ◌≡◌, None, Option, Some, true, List, [], eqb, get_or, length, ltb}
use Rattle.std.specs.List.{position}
use Rattle.octets.specs.Lists.{◌∈◌, if◌then◌otherwise◌}
use Rattle.entries.specs.Completion.{max_count}
use Rattle.entries.specs.Entries.{Entry, at, names, rising}
use Rattle.book.specs.Book.{records_at, today}
use Rattle.book_seek.specs.Seek.{Seeking}
use Rattle.book_seek.specs.declared.Seek.{Seek}
use Rattle.completion_turn.specs.declared.Progress.{Progress}
use Rattle.completion_turn.specs.Turns.{so_far}
use Rattle.completion_book.specs.Offers.{entries_at}
use Rattle.panel.specs.Panel.{highlighted, offered_for, typing}
use Rattle.panel_rows.specs.declared.Row.{Row}

-- the positions of what is offered for a text, in a book whose entries are in order
pub record Rows (es : List Entry) (w : List ℕ) (s : Progress) : Type 0 where
  pub sorted : rising es ≡ true
  pub inside : (i : ℕ) → i ∈ so_far s → i < length es
  pub few : s.count ≤ max_count
  pub offered : entries_at es (so_far s) ≡ offered_for es w
  pub count : s.count ≡ length (offered_for es w)

-- the same for every text that stands so among the names of a book
abbrev pub RowsAll : List Entry → Seek → Progress → Type 0
RowsAll es seek s = (w : List ℕ) → Seeking w (records_at today (length es)) (names es) seek → Rows es w s

-- one of the rows
abbrev pub row_at : Progress → ℕ → Row
row_at s i =
    record {
      number = i;
      rows = s.count;
      position = if ltb i s.count then Some (get_or s.offered i 0) otherwise None;
    }

-- its name, the empty one without rows
abbrev pub row_name : List Entry → Option ℕ → List ℕ
row_name es None = []
row_name es (Some i) = (at es i).name

-- a row of those offered for a text
pub record OnRow (es : List Entry) (w : List ℕ) (r : Row) : Type 0 where
  pub rows : r.rows ≡ length (offered_for es w)
  pub inside : (i : ℕ) → r.position ≡ Some i → i < length es
  pub name : row_name es r.position ≡ highlighted es (typing w r.number)

-- the row of a position, if it is in one of them
abbrev pub row_of : ℕ → List ℕ → Option ℕ
row_of i js = position (λ j. eqb j i) js

-- Names in rows of 48 bytes, each with its length, and the positions that they are wanted for.
use Rattle.std.specs.Prelude.{◌*◌, ◌-◌, ◌<◌, ◌≤◌, ℕ, ◌≡◌, true, List, drop, get_or, length}
use Rattle.octets.specs.Octets.{begins}
use Rattle.entries.specs.Entries.{Entry, at}
use Rattle.entries.specs.Names.{longest_name}
use Rattle.book_laws.specs.Cursor.{name_in}
use Rattle.book_laws.specs.declared.Cursor.{Cursor}
use Rattle.book_name.specs.Poised.{Poised}

-- row j holds the name w
pub record RowIs (rows lens : List ℕ) (j : ℕ) (w : List ℕ) : Type 0 where
  pub long : get_or lens j 0 ≡ length w
  pub stands : begins w (drop (j * longest_name) rows) ≡ true

-- there are rows and lengths for so many names
pub record RowRoom (count rows lens : ℕ) : Type 0 where
  pub named : count * longest_name ≤ rows
  pub counted : count ≤ lens

-- the nearer of a position not before `from`, and the least so far
pub record Nearer (position from least r : ℕ) : Type 0 where
  pub few : r ≤ least
  pub low : from ≤ least → from ≤ r
  pub near : from ≤ position → r ≤ position

-- no position wanted lies from `from` on and before r
pub record Wanted (wanted : List ℕ) (from end r : ℕ) : Type 0 where
  pub low : from ≤ r
  pub high : r ≤ end
  pub least : (j : ℕ) → j < length wanted → from ≤ get_or wanted j 0 → r ≤ get_or wanted j 0
  pub none : length wanted ≡ 0 → r ≡ end

-- row j after a name was stored in it, if that is the one at its position
pub record Put (c : Cursor) (position j : ℕ) (rows lens rows' lens' : List ℕ) : Type 0 where
  pub same_rows : length rows' ≡ length rows
  pub same_lens : length lens' ≡ length lens
  pub here : position ≡ c.index - 1 → RowIs rows' lens' j (name_in c)
  pub own : (position ≡ c.index - 1 → ⊥) → (w : List ℕ) → RowIs rows lens j w → RowIs rows' lens' j w
  pub others :
      (i : ℕ) → (i ≡ j → ⊥) → (w : List ℕ) → length w ≤ longest_name → RowIs rows lens i w → RowIs rows' lens' i w

-- all rows after it
pub record Placed (c : Cursor) (wanted rows lens rows' lens' : List ℕ) : Type 0 where
  pub same_rows : length rows' ≡ length rows
  pub same_lens : length lens' ≡ length lens
  pub here : (j : ℕ) → j < length wanted → get_or wanted j 0 ≡ c.index - 1 → RowIs rows' lens' j (name_in c)
  pub others :
      (j : ℕ) → (get_or wanted j 0 ≡ c.index - 1 → ⊥) → (w : List ℕ) → length w ≤ longest_name → RowIs rows lens j w
      → RowIs rows' lens' j w

-- the positions wanted are not before the cursor, and its records can be read
pub record Fillable (es : List Entry) (c : Cursor) (wanted : List ℕ) : Type 0 where
  pub within : c.index ≤ length es
  pub behind : (j : ℕ) → j < length wanted → c.index ≤ get_or wanted j 0
  pub inside : (j : ℕ) → j < length wanted → get_or wanted j 0 < length es
  pub poised : 0 < length wanted → Poised es c

-- row j holds the name at the j-th position wanted
pub record Filled (es : List Entry) (wanted rows lens : List ℕ) : Type 0 where
  pub row : (j : ℕ) → j < length wanted → RowIs rows lens j (at es (get_or wanted j 0)).name

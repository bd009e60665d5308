-- A table of names: rows of 48 bytes, their lengths, their scores.
use Rattle.std.specs.Prelude.{◌*◌, ◌<◌, ◌≤◌, ℕ, ◌≡◌, List, map, drop, get_or, length, take}
use Rattle.octets.specs.Lists.{count_from}
use Rattle.entries.specs.Entries.{Entry, entry, max_entries}
use Rattle.entries.specs.Names.{longest_name}

-- the entry of a row
abbrev pub row_at : List ℕ → List ℕ → List ℕ → ℕ → Entry
row_at names lens scores p = entry (take (get_or lens p 0) (drop (p * longest_name) names)) (get_or scores p 0)

-- the entries of the table, one for each length
unfoldable pub entries : List ℕ → List ℕ → List ℕ → List Entry
entries names lens scores = map (row_at names lens scores) (count_from 0 (length lens))

-- each length has a row and a score
pub record Table (names lens scores : List ℕ) : Type 0 where
  pub rows : length lens * longest_name ≤ length names
  pub scored : length lens ≤ length scores
  pub few : length lens ≤ max_entries
  pub short : (p : ℕ) → p < length lens → get_or lens p 0 ≤ longest_name

-- room for n rows
pub record TableRoom (n names lens scores : ℕ) : Type 0 where
  pub rows : n * longest_name ≤ names
  pub counted : n ≤ lens
  pub scored : n ≤ scores

-- the first rows are the entries es
pub record Unpacked (es : List Entry) (names lens scores : List ℕ) : Type 0 where
  pub table : Table names (take (length es) lens) scores
  pub same : entries names (take (length es) lens) scores ≡ es

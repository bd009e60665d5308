-- Ranges of rows of a table: their sets of suffixes, and the runs that stand for the sets.
use Rattle.std.specs.Prelude.{◌+◌, ◌-◌, ◌<◌, ◌≤◌, max, suc, ℕ, ◌≡◌, Bool, false, true, List, [], ◌∷◌, map, ltb, drop, length, take}
use Rattle.std.proofs.Math.Seq.{slice}
use Rattle.octets.specs.Lists.{all, sort_by}
use Rattle.octets.specs.Octets.{below}
use Rattle.entries.specs.Entries.{Entry, at}
use Rattle.entries.specs.Names.{allowed_bytes}
use Rattle.trie.specs.Trie.{by_first, highest, label_of, remains, same_first}
use Rattle.book_table.specs.Table.{Table, entries}
use Rattle.trie_write_runs.specs.Runs.{Each, Falls}
use Rattle.trie_write_runs.specs.declared.Run.{Run}

-- what is left of the names of rows lo to hi behind their first d bytes
abbrev pub set_at_depth : List Entry → ℕ → ℕ → ℕ → List Entry
set_at_depth es lo hi d = remains d (slice lo hi es)

-- what is left of one name
abbrev pub rest_at : List Entry → ℕ → ℕ → List ℕ
rest_at es d p = drop d (at es p).name

-- suffixes that begin alike
abbrev pub Chain : List Entry → Type 0
Chain [] = Unit {0}
Chain (x ∷ []) = Unit {0}
Chain (x ∷ y ∷ zs) = (same_first x.name y.name ≡ true) × Chain (y ∷ zs)

-- where the set that ends before row e begins
pub record Starts (es : List Entry) (d lo e a : ℕ) : Type 0 where
  pub from : lo ≤ a
  pub before : a < e
  pub chain : Chain (set_at_depth es a e d)
  pub edge : lo < a → same_first (rest_at es d (a - 1)) (rest_at es d a) ≡ false

-- rows that share their first d bytes
pub record Shared (es : List Entry) (d lo hi : ℕ) : Type 0 where
  pub order : lo ≤ hi
  pub inside : hi ≤ length es
  pub long : (p : ℕ) → lo ≤ p → p < hi → d ≤ length (at es p).name
  pub alike : (p : ℕ) → lo ≤ p → p < hi → take d (at es p).name ≡ take d (at es lo).name
  pub rises : (p : ℕ) → lo ≤ p → suc p < hi → below (rest_at es d p) (rest_at es d (suc p)) ≡ true

-- names of allowed bytes
abbrev pub Named : List Entry → Type 0
Named es = all (λ e. allowed_bytes e.name) es ≡ true

-- how many keys from k on there are in ranges of them
abbrev pub keys_from : ℕ → List (ℕ × ℕ) → ℕ
keys_from k [] = 0
keys_from k (r ∷ rs) = (suc r.1 - max r.0 k) + keys_from k rs

-- sets in falling score
abbrev pub higher : List Entry → List Entry → Bool
higher a b = ltb (highest b) (highest a)

abbrev pub set_of : List Entry → ℕ → Run → List Entry
set_of es d r = set_at_depth es r.lo r.hi d

-- a run stands for the set of its rows: its score and the length of its label
pub record Good (es : List Entry) (d lo hi : ℕ) (r : Run) : Type 0 where
  pub from : lo ≤ r.lo
  pub some : r.lo < r.hi
  pub upto : r.hi ≤ hi
  pub high : r.high ≡ highest (set_of es d r)
  pub len : r.len ≡ length (label_of (set_of es d r))

-- the runs are the siblings of rows lo to hi, in their order
pub record SiblingRuns (es : List Entry) (d lo hi : ℕ) (rs : List Run) : Type 0 where
  pub sets : map (set_of es d) rs ≡ sort_by higher (by_first (set_at_depth es lo hi d))
  pub good : Each (Good es d lo hi) rs
  pub falls : Falls rs

-- rows that can be split: a table of allowed names, of which rows lo to hi share their first d bytes
pub record Splittable (names lens scores : List ℕ) (lo hi d : ℕ) : Type 0 where
  pub table : Table names lens scores
  pub named : Named (entries names lens scores)
  pub upto : hi ≤ length lens
  pub shared : Shared (entries names lens scores) d lo hi

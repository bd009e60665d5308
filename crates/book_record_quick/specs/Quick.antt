-- What the fast reading of a record tells.
use Rattle.std.specs.Prelude.{◌+◌, ◌<◌, ◌≤◌, ℕ, ◌≡◌, List, ◌++◌, IfSome, Option, drop, get_or, length, take}
use Rattle.entries.specs.Names.{longest_name}
use Rattle.book_record_quick.specs.declared.Header.{Header}

-- the bytes of the array that names are read to
abbrev pub name_room : ℕ
name_room = 96

-- the header of a record at index `at` of an image of `total` bytes, behind the name in the first len bytes of an array
pub record HeaderAt (buf : List ℕ) (at total : ℕ) (name : List ℕ) (len kept own : ℕ) : Type 0 where
  pub common : kept ≡ get_or buf at 0
  pub count : own ≡ get_or buf (at + 1) 0
  pub within : kept ≤ len
  pub some : 1 ≤ own
  pub inside : at + 2 + own ≤ total
  pub short : kept + own ≤ longest_name
  pub above : get_or name kept 0 < get_or buf (at + 2) 0

-- a record that was read, and the name that it leaves: the rest stands behind the kept bytes
pub record NameRead (buf : List ℕ) (at total : ℕ) (name : List ℕ) (len kept own : ℕ) (after : List ℕ) : Type 0 where
  pub header : HeaderAt buf at total name len kept own
  pub holds : take (kept + own) after ≡ take kept name ++ take own (drop (at + 2) buf)

-- the array after a reading, whether a record was read or none may stand there
pub record ReadAs (buf : List ℕ) (at total : ℕ) (name : List ℕ) (len : ℕ) (r : Option Header) (after : List ℕ) : Type 0
  where
    pub long : length after ≡ name_room
    pub read : IfSome r (λ h. NameRead buf at total name len h.kept h.own after)

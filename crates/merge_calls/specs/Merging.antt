-- A pass over the entries chosen from two books: what it asks and what it leaves.
use Rattle.std.specs.Prelude.{ℕ, ◌≡◌, Bool, true, List, [], ltb, length, take}
use Rattle.entries.specs.Entries.{Entry, names, valid}
use Rattle.book.specs.Records.{records}
use Rattle.book.specs.Book.{today}
use Rattle.book_append.specs.Append.{Fits, after_pass, cursor_behind, end_of}
use Rattle.merge_calls.specs.declared.MergePass.{MergePass}

-- the bytes of the records of entries
abbrev pub records_length : List Entry → ℕ
records_length es = length (records today.heads 0 [] (names es))

-- the entries of two books, each such as a book may have
pub record Both (first second : List Entry) : Type 0 where
  pub one : valid first ≡ true
  pub other : valid second ≡ true

-- a pass over the first count of the entries es, the first record at index `at`
pub record PassRoom (es : List Entry) (d : List ℕ) (count at : ℕ) (store : Bool) : Type 0 where
  pub fits : Fits today store count (cursor_behind at 0 []) (take count es) d

-- what it tells: how many they are, where their records end, whether there are more
pub record PassTold (es : List Entry) (count at : ℕ) (r : MergePass) : Type 0 where
  pub entries : r.entries ≡ length (take count es)
  pub end : r.end ≡ end_of today (cursor_behind at 0 []) (take count es)
  pub more : r.more ≡ ltb count (length es)

pub record PassDone (es : List Entry) (d new : List ℕ) (count at : ℕ) (store : Bool) (r : MergePass) : Type 0 where
  pub told : PassTold es count at r
  pub bytes : new ≡ after_pass today store count (cursor_behind at 0 []) (take count es) d

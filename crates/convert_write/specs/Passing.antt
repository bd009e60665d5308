-- A book passed record by record into another layout: what a record asks, and what passing it leaves.
use Rattle.std.specs.Prelude.{◌+◌, ◌<◌, ◌≤◌, ℕ, ◌≡◌, Bool, not, true, List, [], ◌∷◌, length}
use Rattle.octets.specs.Lists.{if◌then◌otherwise◌}
use Rattle.entries.specs.Entries.{Entry, at}
use Rattle.entries.specs.Names.{longest_name}
use Rattle.book.specs.Records.{head_at}
use Rattle.book.specs.Book.{image_in, in_book_in}
use Rattle.book_laws.specs.Ahead.{AheadIn}
use Rattle.book_laws.specs.Cursor.{cursor_of}
use Rattle.book_laws.specs.Held.{HeldIn}
use Rattle.book_append.specs.Append.{AppendDone, Fits}
use Rattle.book_append.specs.declared.EntryTarget.{EntryTarget}
use Rattle.convert_write.specs.declared.Conversion.{Conversion}
use Rattle.convert_write.specs.declared.Passed.{Passed}
use Rattle.convert_write.specs.declared.Source.{Source}

-- is the record at position i a bucket's head with both flags, or with neither?
abbrev pub headed_alike : Bool → Bool → ℕ → Bool
headed_alike a b i = if head_at a i then head_at b i otherwise not (head_at b i)

-- the entries of the book
abbrev pub entries_at : List ℕ → Source → List Entry
entries_at book src = in_book_in src.layout book

-- the next record stands there, behind the name in the first bytes of name, and its entry has room where it is to stand
pub record RecordReady (book : List ℕ) (src : Source) (name d : List ℕ) (to : EntryTarget) : Type 0 where
  pub held : HeldIn src.layout book to.slot.n
  pub low : to.slot.index < to.slot.n
  pub long : length name ≡ longest_name
  pub ahead :
      AheadIn src.layout (entries_at book src) book (cursor_of src.at to.slot.index name src.len)
  pub fits :
      Fits to.slot.layout to.store to.slot.n (cursor_of to.slot.at to.slot.index name src.len)
      (at (entries_at book src) to.slot.index ∷ []) d

-- it was passed: the record behind it stands next, behind the name in new, and the entry was put or measured
pub record RecordPassed (book : List ℕ) (src : Source) (name new d left : List ℕ) (to : EntryTarget) (r : Passed) :
    Type
    0 where
  pub ahead :
      AheadIn src.layout (entries_at book src) book (cursor_of r.read (to.slot.index + 1) new r.len)
  pub done :
      AppendDone to.slot.layout to.store to.slot.n
      (cursor_of to.slot.at to.slot.index name src.len)
      (at (entries_at book src) to.slot.index ∷ []) d
      (cursor_of r.written (to.slot.index + 1) new r.len) left

-- a whole book, and with `store` room for its image
pub record PassRoom (book : List ℕ) (c : Conversion) (d : List ℕ) (store : Bool) : Type 0 where
  pub held : HeldIn c.from book c.n
  pub enough : store ≡ true → length (image_in c.to (in_book_in c.from book)) ≤ length d

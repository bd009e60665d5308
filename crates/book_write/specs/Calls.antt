-- What the calls of the writer ask and give: a cursor at the first record, the room for an entry, the entry put.
use Rattle.std.specs.Prelude.{◌+◌, ◌<◌, ◌≤◌, ℕ, ◌≡◌, List, length}
use Rattle.entries.specs.Entries.{entry, max_entries}
use Rattle.entries.specs.Names.{longest_name}
use Rattle.book.specs.Records.{record_of}
use Rattle.book.specs.declared.Layout.{Layout}
use Rattle.book.specs.Book.{records_at}
use Rattle.book_write.specs.declared.Slot.{Slot}
use Rattle.book_write.specs.Writing.{put_entry, put_fields, put_record}
use Rattle.book_laws.specs.declared.Cursor.{Cursor}

-- the cursor at the first record of a book of n entries
pub record Started (l : Layout) (n : ℕ) (r : Cursor) : Type 0 where
  pub at : r.at ≡ records_at l n
  pub index : r.index ≡ 0
  pub len : r.len ≡ 0

-- the record of the name w in a slot, behind the name prev
abbrev pub slot_record : Slot → List ℕ → List ℕ → List ℕ
slot_record slot prev w = record_of slot.layout.heads slot.index prev w

-- a slot that an image can have: an offset of two bytes says where its record begins
pub record InImage (slot : Slot) : Type 0 where
  pub few : slot.n ≤ max_entries
  pub low : slot.index < max_entries
  pub near : slot.at < 65536

-- an entry named w can be put into d in this slot, behind the name prev
pub record PutRoom (slot : Slot) (d prev w : List ℕ) : Type 0 where
  pub few : slot.n ≤ max_entries
  pub low : slot.index < max_entries
  pub near : slot.at < 65536
  pub short : length w ≤ longest_name
  pub fits : slot.at + length (slot_record slot prev w) ≤ length d

-- the entry named w with the score s was put there: new is the buffer then, and r where the entry's record ends
pub record EntryPut (slot : Slot) (d new prev w : List ℕ) (s r : ℕ) : Type 0 where
  pub bytes : new ≡ put_entry slot.layout slot.n slot.index prev slot.at (entry w s) d
  pub end : r ≡ slot.at + length (slot_record slot prev w)

-- an entry of the score s put in a slot: what stands in front of the records, and then the record given as bytes
abbrev pub fields_put : Slot → ℕ → List ℕ → List ℕ
fields_put slot s d = put_fields slot.layout slot.n slot.index slot.at s d

abbrev pub given_put : Slot → List ℕ → ℕ → List ℕ → List ℕ
given_put slot bytes s d = put_record slot.layout slot.n slot.index slot.at bytes s d

-- The stores of `put_entry`, of `put_given` and of `finish`, one after the other: they put the entry, and leave the
-- finished book.
use Prim.Native.Nat.{ℕ}
use mathlib.Core.Path.{◌≡◌}
use mathlib.Core.List.{List}
use lib.Seq.{sets}
use Rattle.octets.specs.Lists.{ceil}
use Rattle.octets.specs.Octets.{be}
use Rattle.frame_code.specs.Stored.{put_frame}
use Rattle.book_record_write.specs.Written.{RecordPut}
use Rattle.book.specs.declared.Layout.{Layout}
use Rattle.book.specs.Book.{block_size}
use Rattle.book_laws.specs.Check.{score_start}
use Rattle.book_write.specs.Calls.{EntryPut, fields_put, given_put, slot_record}
use Rattle.book_write.specs.declared.Slot.{Slot}
use Rattle.book_write.specs.Writing.{finished, put_entry, put_offset, put_peaks}

module _ (slot : Slot) (d : List ℕ) {d₁ d₂ : List ℕ} (s : ℕ) where
  pub fields_put_lem :
      {place : ℕ} → place ≡ score_start slot.index → d₁ ≡ sets d place (be 4 s)
      → d₂ ≡ put_offset slot.layout slot.n slot.index slot.at d₁ → d₂ ≡ fields_put slot s d
  fields_put_lem there scored pointed = rw (pointed, scored, there)

  pub given_put_lem : (bytes : List ℕ) → d₁ ≡ fields_put slot s d → d₂ ≡ sets d₁ slot.at bytes
      → d₂ ≡ given_put slot bytes s d
  given_put_lem bytes put copied = rw (copied, put)

  pub entry_put :
      (prev w : List ℕ) {end : ℕ} → d₁ ≡ fields_put slot s d → RecordPut d₁ d₂ slot.at (slot_record slot prev w) end
      → EntryPut slot d d₂ prev w s end
  unfolding put_entry
  entry_put prev w put recorded =
      record { bytes = given_put_lem (slot_record slot prev w) put recorded.bytes; end = recorded.end }

pub book_finished :
    (l : Layout) (d : List ℕ) {d₁ d₂ : List ℕ} (n total : ℕ) → d₁ ≡ put_peaks l (ceil n block_size) n 0 d
    → d₂ ≡ put_frame l.version total n d₁ → d₂ ≡ finished l total n d
unfolding finished
book_finished l d n total ps f = rw (f, ps)

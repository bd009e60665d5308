-- What moving a book promises (document 02, request g): "A round trip has the same bytes, starting from either. Going
-- back may need more space and then gives 7; an image that is laid out as neither gives 1. The best list for every
-- prefix is the same before and after."
use Rattle.std.specs.Prelude.{◌*◌, ◌≤◌, ℕ, ◌≡◌, true, List, length, take}
use Rattle.std.proofs.Math.Option.{some}
use Rattle.octets.specs.Octets.{overwrite}
use Rattle.entries.specs.Completion.{BestList, completion, max_count}
use Rattle.entries.specs.Entries.{Entry}
use Rattle.entries.specs.Names.{is_prefix}
use Rattle.answer.specs.Answers.{given}
use Rattle.book.specs.declared.Layout.{Layout}
use Rattle.book.specs.Book.{image_in, layout21, layout22, read_in}
use Rattle.completion.specs.Complete.{complete_in, entry_room}
use Rattle.completion.specs.Machine.{machine}
use Rattle.ledger.specs.Demand.{offers_of}
use Rattle.convert.specs.Convert.{convert_book}

-- A book of the entries es, laid out as l, is moved into a buffer d long enough: it is then laid out as m.
pub record Moved (l m : Layout) (book : List ℕ) (es : List Entry) (d : List ℕ) : Type 0 where
  -- the image of these entries is written, and what is told is theirs
  pub told : (convert_book book d).answer ≡ given (record { entries = length es; bytes = length (image_in m es) })
  pub left : (convert_book book d).dest ≡ overwrite d (image_in m es)
  -- it holds just these entries
  pub holds : read_in m (convert_book book d).dest ≡ some es
  -- moved again, into any buffer long enough, it has the same bytes as at first
  pub round_trip :
      (d' : List ℕ) → length (image_in l es) ≤ length d'
      → (convert_book (convert_book book d).dest d').dest ≡ overwrite d' (take (length (image_in l es)) book)
  -- every prefix gets the same answer before and after, with the same looks, and leaves the same bytes
  pub same_offers :
      (p : List ℕ) (k : ℕ) (dst : List ℕ) (ranges : ℕ)
      → complete_in m (convert_book book d).dest p k dst ranges ≡ complete_in l book p k dst ranges
  -- with long enough buffers it is the completion among these entries, which is the best list
  pub offers :
      (p : List ℕ) (k : ℕ) (dst : List ℕ) (ranges : ℕ)
      → is_prefix p ≡ true → 1 ≤ k → k ≤ max_count → entry_room * k ≤ length dst → k ≤ ranges
      → complete_in l book p k dst ranges ≡ offers_of es p k (machine es p k).looks dst
  pub best_list : (p : List ℕ) (k : ℕ) → BestList es p k (completion es p k)

-- up, and back
pub record Moves : Type 0 where
  pub up :
      (book : List ℕ) (es : List Entry) (d : List ℕ) → read_in layout21 book ≡ some es
      → length (image_in layout22 es) ≤ length d → Moved layout21 layout22 book es d
  pub back :
      (book : List ℕ) (es : List Entry) (d : List ℕ) → read_in layout22 book ≡ some es
      → length (image_in layout21 es) ≤ length d → Moved layout22 layout21 book es d

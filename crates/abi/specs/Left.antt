-- What a call under its C name tells and leaves.
use Rattle.std.specs.Prelude.{◌+◌, ℕ, ◌≡◌, List, drop, length, take}
use Rattle.answer.specs.Answers.{OfferedCounts, Outcome, WrittenCounts, counts, number, on_answer}
use Rattle.book.specs.Book.{in_book, records_at, today}
use Rattle.lookup.specs.Lookups.{head_length, head_name}
use Rattle.completion.specs.Complete.{Lent}
use Rattle.completion.specs.declared.Range.{Range}
use Rattle.panel.specs.Panel.{AfterKey}
use Rattle.panel.specs.declared.Panel.{Panel}
use Rattle.script.specs.Run.{Finish}
use Rattle.abi.specs.Told.{OfferedTold, PlayedTold, RowsTold, WrittenTold}

-- a call that writes: its counts, and the destination that it leaves
pub record Left (o : Outcome WrittenCounts) (r e b : ℕ) (dst : List ℕ) : Type 0 where
  pub told : WrittenTold o.answer r e b
  pub dest : dst ≡ o.dest

-- a completion
pub record OfferedLeft (o : Outcome OfferedCounts) (r n b l : ℕ) (dst : List ℕ) : Type 0 where
  pub told : OfferedTold o.answer r n b l
  pub dest : dst ≡ o.dest

-- and one that is lent the ranges xs, which are then ys
pub record OfferedOver (o : Outcome OfferedCounts) (r n b l : ℕ) (dst : List ℕ) (xs ys : List Range) : Type 0 where
  pub left : OfferedLeft o r n b l dst
  pub lent : Lent o.answer xs ys

-- a key: the rows, and the panel that is left
pub record PanelLeft (o : AfterKey) (r k : ℕ) (panel : Panel) : Type 0 where
  pub told : RowsTold o.answer r k
  pub leaves : panel ≡ o.panel

-- the run of a history: its two buffers, and the answers
pub record RunLeft (f : Finish) (r n t : ℕ) (first second out : List ℕ) : Type 0 where
  pub told : PlayedTold f.answer r n t
  pub leaves : (first ≡ f.first) × (second ≡ f.second) × (out ≡ f.out)

-- where the head name of a book with entries begins: behind the common byte and the length of the first record
abbrev pub head_at : List ℕ → ℕ
head_at book = records_at today (length (in_book book)) + 2

-- a bucket's head name, told by where it begins in the book and its length
pub record HeadTold (book : List ℕ) (j r s k : ℕ) : Type 0 where
  pub returned : r ≡ number (head_length book j)
  pub start : s ≡ on_answer (head_length book j) 0 (head_at book)
  pub size : k ≡ counts 0 (head_length book j)
  -- that part of the book is the name, and empty with a refusal
  pub part : take k (drop s book) ≡ head_name book j

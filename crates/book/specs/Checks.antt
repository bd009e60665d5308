-- What a call that is given books declines for first, but the converter, which takes old ones (document 01, "When a call
-- declines"; document 02, request f): 10, an old book, and then 1. Each covers every book before the next is looked at.
use Rattle.std.specs.Prelude.{ℕ, Bool, not, List, [], ◌∷◌, eqb, get_or}
use Rattle.octets.specs.Lists.{any}
use Rattle.entries.specs.Entries.{Entry}
use Rattle.answer.specs.Answers.{Check, Outcome, WrittenCounts, ◌when◌, writing_image}
use Rattle.book.specs.Book.{in_book, is_book, layout21}

-- byte 0 is an old version's, whatever follows; an empty buffer has none
abbrev pub is_old : List ℕ → Bool
is_old buf = eqb (get_or buf 0 0) layout21.version

-- 10, a book of an old version; 1, an image not laid out as a book's, or cut off by its buffer
abbrev pub book_checks : List (List ℕ) → List Check
book_checks books = 10 when any is_old books ∷ 1 when any (λ b. not (is_book b)) books ∷ []

-- A call that writes, from a book, the `image` of its entries: 10 and 1, then 7 where the destination is too short.
abbrev pub from_book : (List Entry → List ℕ) → List ℕ → List ℕ → Outcome WrittenCounts
from_book image book dst =
    let es = in_book book in writing_image (book_checks (book ∷ [])) es (image es) dst

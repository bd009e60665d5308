-- What a page promises: the heading and then the lines of each entry, once each, in rank; and what these lines show.
use Rattle.std.specs.Prelude.{◌*◌, ◌-◌, ◌≤◌, ℕ, ◌≡◌, true, List, [], ◌∷◌, eqb, drop, get_or, length, take}
use Rattle.std.proofs.Math.Option.{some}
use Rattle.octets.specs.Decimal.{value_on}
use Rattle.octets.specs.Lists.{◌∈◌, all, ceil, concat_map, if◌then◌otherwise◌}
use Rattle.octets.specs.Octets.{overwrite, same}
use Rattle.entries.specs.Completion.{in_rank}
use Rattle.entries.specs.Entries.{Entry}
use Rattle.answer.specs.Answers.{given}
use Rattle.book.specs.Book.{read_book}
use Rattle.page.specs.Page.{ended, entry_lines, heading, line_bytes, name_columns, page_columns, page_image, page_lines}
use Rattle.page.specs.Page.{score_columns, spaces, write_page}

-- a right-aligned field read as a number: its digits, behind the spaces
abbrev pub behind_spaces : List ℕ → List ℕ
behind_spaces [] = []
behind_spaces (b ∷ bs) = if eqb b 0x20 then behind_spaces bs otherwise (b ∷ bs)

abbrev pub number_in : List ℕ → ℕ
number_in field = value_on 0 (behind_spaces field)

-- what the lines of an entry show
pub record EntryShown (e : Entry) : Type 0 where
  -- as many lines as parts of 28 bytes: a name of exactly 28 has one
  pub many : length (entry_lines e) ≡ ceil (length e.name) name_columns
  -- the name columns, joined and cut to the name's length, are its name
  pub name : take (length e.name) (concat_map (take name_columns) (entry_lines e)) ≡ e.name
  -- the right-aligned field of the first line, read as a number, is its score; the further lines have none
  pub score : number_in (drop (page_columns - score_columns) (get_or (entry_lines e) 0 [])) ≡ e.score
  pub only_first : all (λ l. same (drop name_columns l) (spaces 12)) (drop 1 (entry_lines e)) ≡ true

-- what the page of a book's entries shows
pub record PageShows (es : List Entry) : Type 0 where
  -- the entries in the order of their lines: just those of the book, strictly in rank, so that none stands twice
  pub printed : List Entry
  pub lines : page_lines es ≡ heading ∷ concat_map entry_lines printed
  pub ranked : in_rank printed ≡ true
  pub among : (e : Entry) → e ∈ printed → e ∈ es
  pub each : (e : Entry) → e ∈ es → e ∈ printed
  pub shown : (e : Entry) → e ∈ es → EntryShown e
  -- every line has exactly 40 bytes, and the page is these, each with a line feed behind it
  pub forty : all (λ l. eqb (length l) page_columns) (page_lines es) ≡ true
  pub image : page_image es ≡ concat_map ended (page_lines es)
  pub bytes : length (page_image es) ≡ line_bytes * length (page_lines es)
  -- every buffer with the book at its front is laid out so, into a destination that is long enough
  pub laid_out :
      (book dst : List ℕ) → read_book book ≡ some es → length (page_image es) ≤ length dst
      → write_page book dst
      ≡ record {
        answer = given (record { entries = length es; bytes = length (page_image es) });
        dest = overwrite dst (page_image es);
      }

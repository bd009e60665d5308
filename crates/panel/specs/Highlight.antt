-- What is promised of the highlight (document 02, request b): it is on the held name, and stays on it.
use Rattle.std.specs.Prelude.{◌-◌, ◌≤◌, ℕ, ◌≡◌, ◌&&◌, true, List, length}
use Rattle.entries.specs.Entries.{Entry, at, holds}
use Rattle.answer.specs.Answers.{given}
use Rattle.book.specs.Book.{in_book, is_book}
use Rattle.panel.specs.declared.Panel.{Panel}
use Rattle.panel.specs.Panel.{AfterKey, held_in, is_held, is_typed, offered_for, padded, press, typed_in}

-- a panel on one of its rows, whose name it holds; without rows on row 0, and it holds none
pub record OnItsName (es : List Entry) (p : Panel) : Type 0 where
  pub rows : p.rows ≡ length (offered_for es (typed_in p))
  pub on_row : p.highlight ≤ p.rows - 1
  pub its_name : held_in p ≡ (at (offered_for es (typed_in p)) p.highlight).name
  pub no_name : p.rows ≡ 0 → p.held_len ≡ 0
  -- zeros behind the name
  pub padding : p.held ≡ padded (held_in p)
  -- and no key after it gives 2 for what this one left
  pub allowed : (is_typed p && is_held p) ≡ true

-- after every accepted key the held name is that of the highlighted row
abbrev pub HoldsItsName : Type 0
HoldsItsName =
    (book : List ℕ) (p : Panel) (key rows : ℕ) → (press book p key).answer ≡ given rows
    → OnItsName (in_book book) (press book p key).panel

-- a panel p whose held name is offered on a book, after key 00 and after key 0D there: the text stays, the highlight is
-- on the name, which is still held; and it is the name that is taken
pub record StillOn (offered : List Entry) (p : Panel) (recounted taken : AfterKey) : Type 0 where
  pub counted : recounted.answer ≡ given (length offered)
  pub text : typed_in recounted.panel ≡ typed_in p
  pub on_name : (at offered recounted.panel.highlight).name ≡ held_in p
  pub held : held_in recounted.panel ≡ held_in p
  pub takes : typed_in taken.panel ≡ held_in p

-- while the held name is still offered for the text, no edit of the book moves the highlight off it: for every two
-- books, and every panel that a key left on the first
abbrev pub StaysOnItsName : Type 0
StaysOnItsName =
    (first second : List ℕ) (p : Panel) (key rows : ℕ) → (press first p key).answer ≡ given rows → is_book second ≡ true
    → let left = (press first p key).panel in
    let offered = offered_for (in_book second) (typed_in left) in
    holds (held_in left) offered ≡ true → StillOn offered left (press second left 0x00) (press second left 0x0D)

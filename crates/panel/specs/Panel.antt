-- The panel's typing state and its keys (document 01, "Sheet, finding, panel, program"; document 02, requests b
-- and c).
use Rattle.std.specs.Prelude.{◌+◌, ◌-◌, min, ℕ, Bool, ◌&&◌, ◌||◌, not, List, [], ◌++◌, ◌∷◌, eqb, leb, ltb, length, replicate}
use Rattle.std.specs.Prelude.{Result, take, ◌≡◌}
use Rattle.octets.specs.Lists.{any, if◌then◌otherwise◌}
use Rattle.entries.specs.Completion.{completion}
use Rattle.entries.specs.Entries.{Entry, at, holds, position}
use Rattle.entries.specs.Names.{is_name, is_plain, is_prefix, last_sign, longest_name, micro, ohm}
use Rattle.answer.specs.Answers.{Answer, Check, ◌when◌, on_answer, unless}
use Rattle.book.specs.Book.{in_book}
use Rattle.book.specs.Checks.{book_checks}
use Rattle.panel.specs.declared.Panel.{Panel}
use Rattle.answer.specs.declared.Refusal.{Refusal}
use Rattle.answer.specs.Reports.{count_of}

-- what a key works on: the typed text and the highlighted row
pub record Typing : Type 0 where
  pub typed : List ℕ
  pub row : ℕ

abbrev pub typing : List ℕ → ℕ → Typing
typing w i = record { typed = w; row = i }

-- what is offered for the text, with k = 5
abbrev pub panel_count : ℕ
panel_count = 5

abbrev pub offered_for : List Entry → List ℕ → List Entry
offered_for es w = completion es w panel_count

-- the name on the highlighted row; without rows the empty one, that of `no_entry`
abbrev pub highlighted : List Entry → Typing → List ℕ
highlighted es t = (at (offered_for es t.typed) t.row).name

-- a row number past the last row of those offered is lowered to it, to 0 without rows
abbrev pub lower_to : List Entry → ℕ → ℕ
lower_to offered row = min row (length offered - 1)

unfoldable pub lowered : List Entry → Typing → Typing
lowered es t = typing t.typed (lower_to (offered_for es t.typed) t.row)

-- the row that has a name; another row if the name is not offered
abbrev pub row_with : List ℕ → List Entry → ℕ → ℕ
row_with w offered other = if holds w offered then position w offered otherwise other

-- the highlight goes to the row that has the held name; if it is not offered, as one of length 0 never is, the row
-- number is lowered
unfoldable pub on_held : List Entry → List ℕ → Typing → Typing
on_held es held t =
    let offered = offered_for es t.typed in typing t.typed (row_with held offered (lower_to offered t.row))

-- keys 20 to 7E append, and 80 and 81 (document 02, request c)
abbrev pub appends : ℕ → Bool
appends key = is_plain key || eqb key 0x80 || eqb key 0x81

-- the bytes that a key appends, one sign: 80 µ, 81 Ω, any other its own byte
abbrev pub key_bytes : ℕ → List ℕ
key_bytes key =
    if eqb key 0x80 then micro
    otherwise if eqb key 0x81 then ohm
    otherwise key ∷ []

abbrev pub is_listed : ℕ → Bool
is_listed key = appends key || any (eqb key) (0x08 ∷ 0x01 ∷ 0x02 ∷ 0x0D ∷ 0x00 ∷ [])

-- append a sign
abbrev pub appended : ℕ → Typing → Typing
appended key t = typing (t.typed ++ key_bytes key) 0

-- a text without its last sign, of which no half stays (document 02, request c)
abbrev pub without_last : List ℕ → List ℕ
without_last w = take (length w - last_sign w) w

-- erase the last sign, if there is one
abbrev pub erased : Typing → Typing
erased t = if eqb (length t.typed) 0 then t otherwise typing (without_last t.typed) 0

-- up and down, stopping at the ends
abbrev pub raised : Typing → Typing
raised t = typing t.typed (t.row - 1)

abbrev pub moved_down : List Entry → Typing → Typing
moved_down es t = typing t.typed (lower_to (offered_for es t.typed) (t.row + 1))

-- take the highlighted name, if there are rows
abbrev pub name_taken : List Entry → Typing → Typing
name_taken es t = if eqb (length (offered_for es t.typed)) 0 then t otherwise typing (highlighted es t) 0

-- what a listed key does to the text and the row, once the highlight is on the held name or lowered; 00 only recounts
unfoldable pub acts : List Entry → ℕ → Typing → Typing
acts es key t =
    if appends key then appended key t
    otherwise if eqb key 0x08 then erased t
    otherwise if eqb key 0x01 then raised t
    otherwise if eqb key 0x02 then moved_down es t
    otherwise if eqb key 0x0D then name_taken es t
    otherwise t

-- 48 bytes: a text, zeros behind it
abbrev pub padded : List ℕ → List ℕ
padded w = w ++ replicate (longest_name - length w) 0

-- the state afterwards: bytes past the text and past the held name are zero, the rows are counted, the held name is the
-- highlighted one
unfoldable pub panel_of : List Entry → Typing → Panel
panel_of es t =
    record {
      text = padded t.typed;
      len = length t.typed;
      highlight = t.row;
      rows = length (offered_for es t.typed);
      held = padded (highlighted es t);
      held_len = length (highlighted es t);
    }

-- the typed part of the text and the held name, which is all of either that is read
abbrev pub typed_in : Panel → List ℕ
typed_in p = take p.len p.text

abbrev pub held_in : Panel → List ℕ
held_in p = take p.held_len p.held

-- what a panel holds for a key to work on
abbrev pub typing_in : Panel → Typing
typing_in p = typing (typed_in p) p.highlight

-- the length is not over 48, and the bytes within it are allowed
abbrev pub is_typed : Panel → Bool
is_typed p = leb p.len longest_name && is_prefix (typed_in p)

-- the held name has length 0, or is an allowed one of at most 48 bytes
abbrev pub is_held : Panel → Bool
is_held p = eqb p.held_len 0 || (leb p.held_len longest_name && is_name (held_in p))

-- an answer, the number of rows, and the panel afterwards
pub record AfterKey : Type 0 where
  pub answer : Answer ℕ
  pub panel : Panel

-- what a key leads to: rows are counted before it acts, where the highlight goes to the held name or is lowered, and
-- again after, where it is lowered
abbrev pub typing_after : List Entry → Panel → ℕ → Typing
typing_after es p key = lowered es (acts es key (on_held es (held_in p) (typing_in p)))

-- what a key is refused for: at last, that it appends a sign of more bytes than are left of 48
abbrev pub key_checks : List ℕ → Panel → ℕ → List Check
key_checks book p key =
    book_checks (book ∷ [])
    ++ (2 when not (is_typed p && is_held p)
    ∷ 8 when not (is_listed key)
    ∷ 9 when (appends key && ltb longest_name (p.len + length (key_bytes key)))
    ∷ [])

-- a key: its answer, and the panel that it leaves
unfoldable pub press : List ℕ → Panel → ℕ → AfterKey
press book p key =
    let new = panel_of (in_book book) (typing_after (in_book book) p key) in
    let answer = unless (key_checks book p key) new.rows in
    record { answer = answer; panel = on_answer answer p new }

-- a key answers r and leaves the panel `left`, as its definition says
pub record PressedAs (o : AfterKey) (r : Result ℕ Refusal) (left : Panel) : Type 0 where
  pub answer : count_of r ≡ o.answer
  pub leaves : left ≡ o.panel

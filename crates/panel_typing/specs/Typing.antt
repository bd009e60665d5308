-- What the steps of a key say of the typed text and of a row number.
use Rattle.std.specs.Prelude.{◌+◌, ◌-◌, ◌≤◌, min, ℕ, ◌≡◌, Bool, ◌&&◌, ◌||◌, not, List, ◌++◌, eqb, ltb, length}
use Rattle.octets.specs.Lists.{if◌then◌otherwise◌}
use Rattle.entries.specs.Names.{longest_name}
use Rattle.panel.specs.declared.Panel.{Panel}
use Rattle.panel.specs.Panel.{appends, key_bytes, typed_in, without_last}

-- of a text of this length: append more bytes than are left
abbrev pub is_full : ℕ → ℕ → Bool
is_full len key = appends key && ltb longest_name (len + length (key_bytes key))

-- append, or erase a sign that is there
abbrev pub changes_text : ℕ → ℕ → Bool
changes_text len key = appends key || (eqb key 0x08 && not (eqb len 0))

-- the text then
abbrev pub changed_text : ℕ → List ℕ → List ℕ
changed_text key w = if appends key then w ++ key_bytes key otherwise without_last w

-- take a name, where there is one
abbrev pub takes : ℕ → ℕ → Bool
takes key rows = eqb key 0x0D && not (eqb rows 0)

-- up and down, stopping at the ends
abbrev pub moved_row : ℕ → ℕ → ℕ → ℕ
moved_row key row rows =
    if eqb key 0x01 then row - 1
    otherwise if eqb key 0x02 then min (row + 1) (rows - 1)
    otherwise row

-- a panel on which this text is typed, with any bytes behind it
pub record Typed (w : List ℕ) (p : Panel) : Type 0 where
  pub holds : typed_in p ≡ w
  pub short : p.len ≤ longest_name

-- What the steps of showing a panel leave: a text and what stands behind it.
use Rattle.std.specs.Prelude.{◌≤◌, ℕ, ◌≡◌, List, length, take}
use Rattle.entries.specs.Names.{longest_name}
use Rattle.panel.specs.Panel.{padded}
use Rattle.panel_show.specs.declared.Text.{Text}

-- a text with zeros behind it
abbrev pub text_of : List ℕ → Text
text_of w = record { bytes = padded w; len = length w }

-- a text with any bytes behind it
pub record TextIs (w : List ℕ) (t : Text) : Type 0 where
  pub holds : take t.len t.bytes ≡ w
  pub short : t.len ≤ longest_name

-- What a key answers by value, and what a key that acts may count on.
use Rattle.std.specs.Prelude.{◌≤◌, ℕ, ◌≡◌, Err, Ok, Result, false}
use Rattle.entries.specs.Names.{longest_name}
use Rattle.answer.specs.Answers.{given, refused}
use Rattle.answer.specs.Reports.{number_of}
use Rattle.answer.specs.declared.Refusal.{Refusal}
use Rattle.panel.specs.declared.Panel.{Panel}
use Rattle.panel.specs.Panel.{AfterKey}
use Rattle.panel_typing.specs.Typing.{is_full}

-- a refusal, or the panel that the key leaves, on which it has counted the rows
abbrev pub SteppedAs : AfterKey → Result Panel Refusal → Type 0
SteppedAs o (Err r) = o.answer ≡ refused (number_of r)
SteppedAs o (Ok q) = (o.answer ≡ given q.rows) × (o.panel ≡ q)

-- what a key that acts counts on: both lengths, and room where it appends
pub record Ready (p : Panel) (key : ℕ) : Type 0 where
  pub short : p.len ≤ longest_name
  pub held_short : p.held_len ≤ longest_name
  pub room : is_full p.len key ≡ false

-- The lines that are printed.
use Rattle.std.specs.Prelude.{◌+◌, ◌≤◌, ℕ, ◌≡◌, true, List, ◌++◌}
use Rattle.octets.specs.Decimal.{decimal}
use Rattle.octets.specs.Lists.{all, concat_map}
use Rattle.octets.specs.Octets.{begins}
use Rattle.octets.specs.Text.{line_feed, text}
use Rattle.entries.specs.Completion.{max_count}
use Rattle.entries.specs.Entries.{Entry, is_entry}
use Rattle.entries.specs.Names.{longest_name}
use Rattle.answer.specs.Answers.{entries_bytes}
use Rattle.sheet.specs.Sheet.{sheet_from}

-- the line of an entry offered: score and name
abbrev pub entry_line : Entry → List ℕ
entry_line e = decimal e.score ++ text " " ++ e.name ++ line_feed

-- the bytes that it may take: ten digits, a space, the longest name, a line feed
abbrev pub entry_line_room : ℕ
entry_line_room = 10 + 1 + longest_name + 1

abbrev pub offered_lines : List Entry → List ℕ
offered_lines l = concat_map entry_line l

-- n entries of an answer at the front of bytes, laid out as completion does
pub record Laid (n : ℕ) (bytes : List ℕ) : Type 0 where
  pub few : n ≤ max_count
  pub sound : all is_entry (sheet_from n bytes) ≡ true
  pub stands : begins (entries_bytes (sheet_from n bytes)) bytes ≡ true

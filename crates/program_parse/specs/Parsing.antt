-- What the functions give of a command line, through the definitions of document 01's lines.
use Rattle.std.specs.Prelude.{◌≤◌, suc, ℕ, ◌≡◌, List, None, Option, Some, drop, length}
use Rattle.program.specs.Program as program
use Rattle.octets.specs.Decimal.{value_on}
use Rattle.octets.specs.Lists.{if◌then◌otherwise◌}
use Rattle.ledger.specs.Ledger.{set_name, withdraw_name}
use Rattle.program.specs.Program.{bad, digits, edit, has_number, top}
use Rattle.program_parse.specs.declared.Command.{Command}
use Rattle.program_parse.specs.declared.Command.TheVariants as command
use Rattle.program_parse.specs.declared.Number.{Number}

-- the number that stands at the front of bytes, with the space behind it
abbrev pub number_of : List ℕ → Number
number_of bs = record { value = value_on 0 (digits bs); length = suc (length (digits bs)) }

-- the number at the front of bytes, if there is one
abbrev pub number_as : List ℕ → Option Number
number_as bs = if has_number bs then Some (number_of bs) otherwise None

-- what a line asks for, with the name or prefix as the rest of it
abbrev pub command_as : List ℕ → Option Command → program.Command
command_as line (Some (command.Set s i)) = edit (set_name (drop i line) s)
command_as line (Some (command.Top k i)) = top k (drop i line)
command_as line (Some (command.Withdraw i)) = edit (withdraw_name (drop i line))
command_as line None = bad

-- where the rest of it begins
abbrev pub rest_of : Option Command → ℕ
rest_of (Some (command.Set s i)) = i
rest_of (Some (command.Top k i)) = i
rest_of (Some (command.Withdraw i)) = i
rest_of None = 0

-- the code's answer c says of the line what it asks for
pub record Asks (line : List ℕ) (asked : program.Command) (c : Option Command) : Type 0 where
  pub means : command_as line c ≡ asked
  pub within : rest_of c ≤ length line

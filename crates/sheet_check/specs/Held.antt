-- A sheet that was checked: what the functions below the front door ask of it.
use Rattle.std.specs.Prelude.{ℕ, ◌≡◌, true, List, length}
use Rattle.frame.specs.Frame.{entries_of, is_read}
use Rattle.sheet.specs.Sheet.{read_sheet}

pub record HeldSheet (buf : List ℕ) (n : ℕ) : Type 0 where
  pub is_it : is_read (read_sheet buf) ≡ true
  pub count : n ≡ length (entries_of (read_sheet buf))

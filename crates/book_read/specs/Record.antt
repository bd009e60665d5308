-- The parts of a record of a book, as its first bytes tell, and what reading its name leaves.
use Rattle.std.specs.Prelude.{◌+◌, ◌≤◌, ℕ, ◌≡◌, Bool, List, drop, get_or, length, take}
use Rattle.std.proofs.lemmas.List.Edits.{sets}
use Rattle.octets.specs.Lists.{if◌then◌otherwise◌}
use Rattle.book.specs.Records.{head_at}
use Rattle.book_laws.specs.declared.Parts.{Parts}

-- the parts of the record at the front of s, at position i: a head keeps nothing and has a length byte; another has its
-- common byte and the length of the rest
unfoldable pub parts_at : Bool → ℕ → List ℕ → Parts
parts_at heads i s =
    if head_at heads i
    then record { kept = 0; start = 1; own = get_or s 0 0 }
    otherwise record { kept = get_or s 0 0; start = 2; own = get_or s 1 0 }

-- the record's own bytes
abbrev pub own_bytes : List ℕ → Parts → List ℕ
own_bytes s p = take p.own (drop p.start s)

-- a whole record stands at the front of s, and its name has room in m bytes
pub record Inside (heads : Bool) (s : List ℕ) (i m : ℕ) : Type 0 where
  pub two : 2 ≤ length s
  pub whole : (parts_at heads i s).start + (parts_at heads i s).own ≤ length s
  pub room : (parts_at heads i s).kept + (parts_at heads i s).own ≤ m

-- the record's parts p, and its name: its own bytes behind the kept ones
pub record Read (heads : Bool) (s : List ℕ) (i : ℕ) (name new : List ℕ) (p : Parts) : Type 0 where
  pub parts : p ≡ parts_at heads i s
  pub bytes : new ≡ sets name p.kept (own_bytes s p)

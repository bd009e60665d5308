-- What the walks over the records answer.
use Rattle.std.specs.Prelude.{◌-◌, ℕ, ◌≡◌, false, List, [], IfSome, None, Option, Some, drop, take}
use Rattle.std.proofs.Math.Option.{none, some}
use Rattle.octets_count.specs.Counts.{Tops, low_count}
use Rattle.book.specs.declared.Layout.{Layout}
use Rattle.book.specs.Records.{names_from}
use Rattle.book_laws.specs.Check.{records_end}
use Rattle.book_seek.specs.Seek.{Seeking}
use Rattle.book_check_walk.specs.declared.Passed.{Passed}
use Rattle.book_check_walk.specs.declared.Walked.{Walked}

-- the bytes from index a to before index b
abbrev pub between : ℕ → ℕ → List ℕ → List ℕ
between a b buf = take (b - a) (drop a buf)

-- where the records of n names end that begin at index `start`; and, where none is a head, where the key stands among
-- their names
pub record Reaches (l : Layout) (n start : ℕ) (buf key : List ℕ) (w : Walked) : Type 0 where
  pub ends : records_end l n n 0 [] start buf ≡ some w.end
  pub seeks : l.heads ≡ false → Seeking key start (names_from l.heads n 0 [] (drop start buf)) w.seek

-- the same, or that the records are no book's
abbrev pub WalkedTo : Layout → ℕ → ℕ → List ℕ → List ℕ → Option Walked → Type 0
WalkedTo l n start buf key None = records_end l n n 0 [] start buf ≡ none
WalkedTo l n start buf key (Some w) = Reaches l n start buf key w

-- The fast walk came to the image's end: where no byte of the records is over 7E and as many are below 20 as of their
-- common and length bytes, they are a book's, and the key stands there among their names.
abbrev pub PassedTo : Layout → ℕ → ℕ → ℕ → List ℕ → List ℕ → Option Passed → Type 0
PassedTo l n start total buf key r =
    IfSome r (λ p.
    Tops (between start total buf) 0x7E → p.lows ≡ low_count (between start total buf)
    → (records_end l n n 0 [] start buf ≡ some total)
    × Seeking key start (names_from l.heads n 0 [] (drop start buf)) p.seek)

-- What counting and playing a script ask and ensure, through the definitions of a run.
use Rattle.std.specs.Prelude.{◌*◌, ◌+◌, ◌≤◌, ℕ, ◌≡◌, None, Option, Some, true, List, length}
use Rattle.std.proofs.Math.Option as maybe
use Rattle.octets.specs.Lists.{if◌then◌otherwise◌}
use Rattle.octets.specs.Octets.{overwrite}
use Rattle.ledger.specs.Ledger.{Edit}
use Rattle.script.specs.Run.{Bench, bench_after, told}
use Rattle.script.specs.Script.{call_length, calls, calls_of, is_call, is_laid}

-- the length of the call at the front of bytes, if one stands there
abbrev pub found_length : List ℕ → Option ℕ
found_length bs = if is_call bs then Some (call_length bs) otherwise None

-- n calls and those that are left
abbrev pub counted_as : ℕ → maybe.Option (List Edit) → Option ℕ
counted_as n maybe.none = None
counted_as n (maybe.some cs) = Some (n + length cs)

-- a script whose answers have room
pub record Playable (script out : List ℕ) : Type 0 where
  pub laid : is_laid (calls script) ≡ true
  pub room : 7 * length (calls_of (calls script)) ≤ length out

-- all calls of it performed
pub record AllPlayed (script : List ℕ) (b : Bench) (out : List ℕ) (end : Bench) (left : List ℕ) : Type 0 where
  pub bench : end ≡ bench_after (calls_of (calls script)) b
  pub answers : left ≡ overwrite out (told (calls_of (calls script)) b)

-- The first seven bytes stored.
use Rattle.std.specs.Prelude.{ℕ, List, [], ◌∷◌}
use Rattle.std.proofs.lemmas.List.Edits.{sets}
use Rattle.octets.specs.Octets.{be}

-- version, total length, n
unfoldable pub put_frame : ℕ → ℕ → ℕ → List ℕ → List ℕ
put_frame version total n d = sets (sets (sets d 0 (version ∷ [])) 1 (be 4 total)) 5 (be 2 n)

-- What a caller of a check knows: the check's contract, and the arm that its answer was taken apart in.
use Prim.Native.Nat.{ℕ}
use mathlib.Core.Path.{◌≡◌, refl}
use mathlib.Core.Bool.{false, true}
use mathlib.Core.List.{List}
use mathlib.Core.Option as maybe
use Rattle.std.specs.Prelude.{None, Option, Some}
use lib.ListN.{length}
use native.Mathlib.Omega.{arith}
use Rattle.entries.specs.Entries.{Entry}
use Rattle.frame.specs.Frame.{entries_of, is_read}
use Rattle.frame_code.specs.Image.{image_as}

-- of the answer r: first what the check ensures of it, then what the match says
pub image_held :
    (o : maybe.Option (List Entry)) {n : ℕ} {r : Option ℕ} → r ≡ image_as o → r ≡ Some n
    → (is_read o ≡ true) × (n ≡ length (entries_of o))
image_held maybe.none e m = let z : ◌≡◌ {A = ℕ} 0 1 = cc in absurd (omega arith)
image_held (maybe.some es) e m = (refl, cc)

pub image_damaged : (o : maybe.Option (List Entry)) {r : Option ℕ} → r ≡ image_as o → r ≡ None → is_read o ≡ false
image_damaged maybe.none e m = refl
image_damaged (maybe.some es) e m = let z : ◌≡◌ {A = ℕ} 0 1 = cc in absurd (omega arith)
